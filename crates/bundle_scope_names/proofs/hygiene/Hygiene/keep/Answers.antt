-- The symbol is marked where it is kept and where it is needed.
use Rattle.std.proofs.Common.{◌≡◌, ◌||◌, ◌&&◌, ℕ, List, map, refl, ap, ◌∙◌, subst, bytes_eq}
use Rattle.bundle_rules.specs.Nodes.{Text}
use Rattle.bundle_scope_denote.specs.declared.table.Denoted.{Denoted}
use Rattle.bundle_scope_denote.specs.declared.table.Scope.{Scope}
use Rattle.bundle_scope_denote.specs.Numbers.{numbered_scope}
use Rattle.bundle_scope_names.specs.Marks.{HygieneMarks, Marks, IsClosed, is_marked_in, marks_kept, needed_by, binding_scopes}
use Rattle.bundle_scope_names.proofs.HomesLemmas.{eq_comm}
use Rattle.bundle_scope_names.proofs.KnowsLemmas.{has-put}
use Rattle.bundle_scope_names.proofs.hygiene.Hygiene.keep.Goals as goal

moved : (s1 s2 : List Scope) (o1 o2 : List Denoted) (binding : ℕ) (text : Text) (old new : HygieneMarks) → s1 ≡ s2 → o1 ≡ o2 → (IsClosed (map numbered_scope s1) old → Marks (map numbered_scope s1) (binding_scopes o1 binding) text old new) → IsClosed (map numbered_scope s2) old → Marks (map numbered_scope s2) (binding_scopes o2 binding) text old new
moved s1 s2 o1 o2 binding text old new e_s e_o marks = subst (λ s. IsClosed (map numbered_scope s) old → Marks (map numbered_scope s) (binding_scopes o2 binding) text old new) e_s (subst (λ o. IsClosed (map numbered_scope s1) old → Marks (map numbered_scope s1) (binding_scopes o binding) text old new) e_o marks)

pub returns-clause-keeps : goal.returns-clause-keeps
returns-clause-keeps c = λ text is. record {
  kept = λ number other. has-put c.args.self.now.symbols.keys c.args.group c.args.symbol text c.args.self.now.kept.keys c.insert.new.self.keys is c.in_ok-insert.ensures.updates.0 number other ∙ ap (λ b. is_marked_in number other (marks_kept c.args.self.now) || (b && bytes_eq other text)) (eq_comm c.args.group number);
  needed = moved c.deref.result.now c.args.denotations.now.scopes.items c.deref-2.result.now c.args.denotations.now.occurrences.items c.args.binding text (needed_by c.args.self.now) _ c.deref.ensures.value c.deref-2.ensures.value (c.in_ok-mark_all.ensures c.args.self.now.symbols.keys text is);
  symbols = refl;
  given = refl;
  last = λ other. refl;
}
