-- The number is the least.
use Rattle.std.proofs.Common.{◌≡◌, ◌<◌, ◌≤◌, ◌+◌, ◌++◌, ◌||◌, ⊎_elim, ℕ, Some, cond, true, false, bytes_eq, string_bytes, decimal, rules, Bool, List, refl, ap, ap₂, sym, ◌∙◌, subst, arith}
use Rattle.std.proofs.lemmas.Bool.{cases_order}
use Rattle.std.proofs.lemmas.Map.Text.{hash_set_updates_text}
use Rattle.bundle_rules.specs.Nodes.{Text}
use Rattle.bundle_rules.specs.Renaming.{numbered}
use Rattle.bundle_scope_names.specs.declared.hygiene.Hygiene.{Hygiene}
use Rattle.bundle_scope_names.specs.Marks.{symbol_number, needed_by, marks_kept, has_taken, has_given, last_by, last_of}
use Rattle.bundle_scope_names.proofs.HomesLemmas.{given-or, bytes_comm}
use Rattle.bundle_scope_names.proofs.KnowsLemmas.{least-from, numbered-some, last-next}
use Rattle.bundle_scope_names.proofs.hygiene.Hygiene.free_text.Goals as goal

next : (k n tried : ℕ) (hygiene : Hygiene) (text : Text) → n ≡ tried + 1 → has_taken hygiene (numbered text n) ≡ true → (k ≤ tried → has_taken hygiene (numbered text k) ≡ true) → k ≤ n → has_taken hygiene (numbered text k) ≡ true
next k n tried hygiene text is met before le = ⊎_elim (λ e. subst (λ m. has_taken hygiene (numbered text m) ≡ true) (sym e) met) (λ apart. ⊎_elim (λ below. let low : k ≤ tried = omega arith in before low) (λ above. absurd (omega arith)) apart) (cases_order k n)

pub loop-tried-init : goal.loop-tried-init
loop-tried-init c = (refl, λ k over le. absurd (omega arith))

pub returns-then-not-is_taken-clause-gives : goal.returns-then-not-is_taken-clause-gives
returns-then-not-is_taken-clause-gives c = λ is.
    let n : ℕ = c.loop-tried.tried + 1 in
    let pos : 0 < n = omega arith in
    let plain : string_bytes c.in_ok-text.text ≡ c.args.sym.now ++ decimal n = search rules in
    let is_text : string_bytes c.in_ok-text.text ≡ numbered c.args.sym.now n = plain ∙ sym (numbered-some c.args.sym.now n pos) in
    let same = c.loop-tried.invariant.0 in
    let free : has_taken c.args.self.now (numbered c.args.sym.now n) ≡ false = sym (c.if-not-is_taken.ensures ∙ ap₂ has_taken same (c.as_str.ensures.value ∙ is_text)) in
    let first : c.tried_last-first.result ≡ last_of c.args.self.now c.args.sym.now = c.tried_last-first.ensures ∙ ap (λ (l : List ℕ). last_by l (Some c.args.symbol)) c.deref.ensures.value ∙ ap (last_by c.args.self.now.last.items) (sym is) in
    let lt : last_of c.args.self.now c.args.sym.now < n = subst (λ m. m < n) first (omega arith) in
    let cloned : string_bytes c.in_ok-clone.field-0 ≡ string_bytes c.in_ok-text.text = search rules in (
      n,
      is_text,
      record {
        is_least = λ tried. least-from (λ other. has_taken c.args.self.now (numbered c.args.sym.now other)) (last_of c.args.self.now c.args.sym.now) n lt tried (λ k over below. let le : k ≤ c.loop-tried.tried = omega arith in c.loop-tried.invariant.1 k (subst (λ m. m < k) (sym first) over) le) free;
        kept = ap marks_kept same;
        needed = ap needed_by same;
        symbols = ap (λ (h : Hygiene). h.symbols.keys) same;
        given = λ other. hash_set_updates_text (string_bytes c.in_ok-clone.field-0) c.loop-tried.self.given c.insert.new.self true c.in_ok-insert.ensures.updates other ∙ given-or (bytes_eq (string_bytes c.in_ok-clone.field-0) other) (has_given c.loop-tried.self other) ∙ ap₂ (λ (a : Bool) (b : Bool). a || b) (ap (λ (h : Hygiene). has_given h other) same) (bytes_comm (string_bytes c.in_ok-clone.field-0) other ∙ ap (bytes_eq other) (cloned ∙ is_text));
        last = λ other. subst (λ (h : Hygiene). last_by c.set_last.new.last.items (symbol_number c.loop-tried.self.symbols.keys other) ≤ cond (bytes_eq c.args.sym.now other) n (last_by h.last.items (symbol_number h.symbols.keys other))) same (last-next c.loop-tried.self.symbols.keys c.loop-tried.self.last.items c.set_last.new.last.items c.args.sym.now other c.args.symbol n (ap (λ (h : Hygiene). symbol_number h.symbols.keys c.args.sym.now) same ∙ is) c.set_last.ensures);
      },
    )

pub loop-tried-preserved : goal.loop-tried-preserved
loop-tried-preserved c =
    let n : ℕ = c.loop-tried.tried + 1 in
    let pos : 0 < n = omega arith in
    let plain : string_bytes c.in_ok-text.text ≡ c.args.sym.now ++ decimal n = search rules in
    let is_text : string_bytes c.in_ok-text.text ≡ numbered c.args.sym.now n = plain ∙ sym (numbered-some c.args.sym.now n pos) in
    let met : has_taken c.args.self.now (numbered c.args.sym.now n) ≡ true = sym (c.if-not-is_taken.ensures ∙ ap₂ has_taken c.loop-tried.invariant.0 (c.as_str.ensures.value ∙ is_text)) in
    (c.loop-tried.invariant.0, λ k over le. next k n (c.loop-tried.tried) c.args.self.now c.args.sym.now refl met (λ low. c.loop-tried.invariant.1 k over low) le)
