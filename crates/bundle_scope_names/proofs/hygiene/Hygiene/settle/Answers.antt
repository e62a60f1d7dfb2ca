-- What is known goes on to hold.
use Rattle.std.proofs.Common.{◌≡◌, ℕ, Bool, true, false, Some, None, List, map, cond, refl, ap, sym, ◌∙◌}
use Rattle.bundle_rules.specs.Nodes.{Text}
use Rattle.bundle_rules.specs.Renaming.{numbered as number_text}
use Rattle.bundle_scope_denote.specs.Numbers.{NumberedScope, numbered_scope}
use Rattle.bundle_scope_names.specs.declared.hygiene.Hygiene.{Hygiene}
use Rattle.bundle_scope_names.specs.Turns.{Facts, group_number, home_number, binding_symbol}
use Rattle.bundle_scope_names.specs.Marks.{KeepsItsSymbol, GivesText, symbol_number, may_keep_by, binding_scopes}
use Rattle.bundle_scope_names.proofs.KnowsLemmas.{keeps-next, gives-next, kept_turn, given_turn}
use Rattle.bundle_scope_names.proofs.SymbolLemmas.{no-number}
use Rattle.bundle_scope_names.proofs.hygiene.Hygiene.settle.Goals as goal

may : (facts : Facts) (number : ℕ) (hygiene : Hygiene) (scopes : List NumberedScope) (home group : ℕ) (text : Text) (b : Bool) → facts.scopes ≡ scopes → home_number facts number ≡ home → binding_symbol facts number ≡ text → group ≡ group_number scopes home → may_keep_by hygiene home group text ≡ b → may_keep_by hygiene (home_number facts number) (group_number facts.scopes (home_number facts number)) (binding_symbol facts number) ≡ b
may facts number hygiene scopes home group text b e_scopes e_home e_text e_group is = rw (e_scopes, e_home, e_text, ← e_group) is

pub returns-in_default-clause-text : goal.returns-in_default-clause-text
returns-in_default-clause-text c = λ facts done e_scopes e_occurrences e_home e_text e_symbol before known. absurd (no-number c.args.self.now.symbols.keys (binding_symbol facts c.args.next.number) (ap (symbol_number c.args.self.now.symbols.keys) e_text ∙ sym e_symbol ∙ c.in_default.is) (known.symbols (binding_symbol facts c.args.next.number) ∙ before))

pub returns-then-may_keep-clause-text : goal.returns-then-may_keep-clause-text
returns-then-may_keep-clause-text c = λ facts done e_scopes e_occurrences e_home e_text e_symbol before known.
    let number : ℕ = c.args.next.number in
    let is_number : symbol_number c.args.self.now.symbols.keys c.args.next.sym.now ≡ Some c.in-Some.symbol = sym e_symbol ∙ c.in-Some.is in
    let e_group : c.group_at-group.result ≡ group_number (map numbered_scope c.args.denotations.now.scopes.items) c.args.next.home = c.group_at-group.ensures ∙ ap (λ l. group_number (map numbered_scope l) c.args.next.home) c.deref.ensures.value in
    let is_may = may facts number c.args.self.now _ _ c.group_at-group.result _ true e_scopes e_home e_text e_group (sym (c.may_keep.ensures is_number) ∙ c.if-may_keep.true) in
    let kept : KeepsItsSymbol facts.scopes (group_number facts.scopes (home_number facts number)) (binding_symbol facts number) (binding_scopes facts.occurrences number) c.args.self.now c.keep.new.self = rw (e_scopes, e_home, e_text, e_occurrences, ← e_group) (c.in_ok-keep.ensures.keeps c.args.next.sym.now is_number) in
    let next = keeps-next facts done c.args.self.now c.keep.new.self number known is_may kept in
    (kept_turn number, refl, next.0, next.1, refl)

pub returns-clause-text : goal.returns-clause-text
returns-clause-text c = λ facts done e_scopes e_occurrences e_home e_text e_symbol before known.
    let number : ℕ = c.args.next.number in
    let is_number : symbol_number c.args.self.now.symbols.keys c.args.next.sym.now ≡ Some c.in-Some.symbol = sym e_symbol ∙ c.in-Some.is in
    let e_group : c.group_at-group.result ≡ group_number (map numbered_scope c.args.denotations.now.scopes.items) c.args.next.home = c.group_at-group.ensures ∙ ap (λ l. group_number (map numbered_scope l) c.args.next.home) c.deref.ensures.value in
    let is_may = may facts number c.args.self.now _ _ c.group_at-group.result _ false e_scopes e_home e_text e_group (sym (c.may_keep.ensures is_number) ∙ c.if-may_keep.false) in
    let n : ℕ = (c.in_ok-text.ensures.gives is_number).0 in
    let gives : GivesText (binding_symbol facts number) n c.args.self.now c.free_text.new.self = rw e_text (c.in_ok-text.ensures.gives is_number).2 in
    let next = gives-next facts done c.args.self.now c.free_text.new.self number n known is_may gives in
    (given_turn number n, refl, next.0, next.1, ap (λ t. Some t) ((c.in_ok-text.ensures.gives is_number).1 ∙ ap (λ t. number_text t n) (sym e_text)) ∙ ap (λ b. cond b None (Some (number_text (binding_symbol facts number) n))) (sym next.2))
