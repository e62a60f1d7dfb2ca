-- The trees of a bundle's modules count to a number; so contexts run out only where the definition
-- allows it.
use Rattle.std.proofs.Common.{◌≡◌, ◌↔◌, ℕ, ◌+◌, ◌<◌, ◌≤◌, Bool, true, false, List, [], ◌∷◌, Option, Some, None, Contains, length, refl, sym, ◌∙◌, subst, if◌then◌else◌, arith}
use Rattle.std.specs.Prelude.{IsTrue}
use Rattle.std.specs.List.{list_any}
use Rattle.std.proofs.lemmas.Bool.{false≢true, and_parts}
use Rattle.bundle_syntax.specs.declared.kind.ExportMetadata.{ExportMetadata}
use Rattle.bundle_syntax.specs.Item.{Item}
use Rattle.bundle_rules.specs.Scopes.{Es, Cjs}
use Rattle.bundle_rules.specs.Entries.{has_import_meta}
use Rattle.bundle_rules.specs.Program.{Program, tree_of}
use Rattle.bundle_rules.specs.Linking.{IsCommonJs}
use Rattle.bundle_rules.specs.Meaning.{is_es, is_common_js}
use Rattle.bundle_rules.specs.Bundle.{Hooks, MayHold, form_of}
use Rattle.bundle_rules.specs.Faults as f
use Rattle.bundle_rules.specs.Faults.{TreesCountTo, NeedsTooManyContexts, tree_count, properties_count}
use Rattle.bundle_merge_theory.specs.made.Given.{HookAnswer, Fresh, Written}
use Rattle.bundle_merge_theory.specs.planned.Decided.{Decided, AreDecided}
use Rattle.bundle_merge_theory.specs.planned.Counted.{answer_count, count_if, injected_labels, sum_of, tree_total}
use Rattle.bundle_link_index.proofs.ProgramLemmas.{later}
use Rattle.bundle_link_targets.proofs.ListLemmas.{first-there as here}
use Rattle.bundle_merge_theory.proofs.planned.CountLemmas.{needs-too-many, labels-few}
use Rattle.bundle_order_graph.proofs.OrderLemmas.{not-true}

-- what the hook answered for a module that has `import.meta`
pub record AreAnswers (p : Program) (hooks : Hooks) (answers : ℕ → Option HookAnswer) : Type
    0 where
  pub asked : (m : ℕ) (properties : List Item) → answers m ≡ Some (Fresh properties) →
      (has_import_meta (tree_of p m) ≡ true) × MayHold p hooks m properties
  pub written : (m ctxt : ℕ) (notes : ExportMetadata) (properties : List Item) →
      answers m ≡ Some (Written ctxt notes properties) → has_import_meta (tree_of p m) ≡ true

module _ (p : Program) (hooks : Hooks) (is_cjs : ℕ → Bool) (answers : ℕ → Option HookAnswer)
    (its : AreAnswers p hooks answers) where
  one-counts : (m : ℕ) (rest : List ℕ) (more : ℕ) → (IsTrue (is_cjs m) ↔ IsCommonJs p m) →
      TreesCountTo p hooks rest more →
      TreesCountTo p hooks (m ∷ rest) (tree_total p is_cjs answers m + more)
  one-counts m rest more says trees = by (is_cjs m) says
    where
      es-by : (IsCommonJs p m → ⊥) → (t : Bool) (o : Option HookAnswer) →
          has_import_meta (tree_of p m) ≡ t → answers m ≡ o →
          TreesCountTo p hooks (m ∷ rest) (tree_count Es (tree_of p m) + answer_count o + more)
      es-by es false None e g =
          let same : tree_count Es (tree_of p m) + more ≡ tree_count Es (tree_of p m) + 0 + more =
          omega arith in
          subst (TreesCountTo p hooks (m ∷ rest)) same (f.plain (is_es es) e trees)
      es-by es false (Some (Written ctxt notes properties)) e g =
          absurd (false≢true (sym e ∙ its.written m ctxt notes properties g))
      es-by es false (Some (Fresh properties)) e g =
          absurd (false≢true (sym e ∙ (its.asked m properties g).0))
      es-by es true None e g =
          let same : tree_count Es (tree_of p m) + more ≡ tree_count Es (tree_of p m) + 0 + more =
          omega arith in
          subst (TreesCountTo p hooks (m ∷ rest)) same (f.unanswered e trees)
      es-by es true (Some (Written ctxt notes properties)) e g =
          let same : tree_count Es (tree_of p m) + more ≡ tree_count Es (tree_of p m) + 0 + more =
          omega arith in
          subst (TreesCountTo p hooks (m ∷ rest)) same (f.unanswered e trees)
      es-by es true (Some (Fresh properties)) e g =
          let same : tree_count Es (tree_of p m) + (properties_count properties + more) ≡ tree_count
          Es (tree_of p m) + properties_count properties + more =
          omega arith in
          subst (TreesCountTo p hooks (m ∷ rest)) same
          (f.with_meta properties e (its.asked m properties g).1 trees)

      by : (t : Bool) → (IsTrue t ↔ IsCommonJs p m) →
          TreesCountTo p hooks (m ∷ rest)
          ((if t then tree_count Cjs (tree_of p m) else tree_count Es (tree_of p m) +
          answer_count (answers m)) + more)
      by true says =
          let cjs = says.0 refl in
          f.plain (is_common_js cjs)
          (not-true (has_import_meta (tree_of p m)) (and_parts _ _ cjs.script).1) trees
      by false says =
          es-by (λ cjs. false≢true (says.1 cjs)) (has_import_meta (tree_of p m)) (answers m) refl
          refl

  -- the trees of a list count to their sum
  pub trees-count : (list : List ℕ) →
      ((m : ℕ) → Contains list m → IsTrue (is_cjs m) ↔ IsCommonJs p m) →
      TreesCountTo p hooks list (sum_of (tree_total p is_cjs answers) list)
  trees-count [] says = f.nothing
  trees-count (m ∷ list) says =
      one-counts m list (sum_of (tree_total p is_cjs answers) list) (says m (here m list))
      (trees-count list (λ n c. says n (later m list n c)))

-- where so many contexts are taken for trees and so many for labels, and the next is past the last
-- one, contexts may run out
pub lacks-contexts : (p : Program) (hooks : Hooks) (d : Decided)
    (answers : ℕ → Option HookAnswer) → AreDecided p (form_of p.settings) d →
    AreAnswers p hooks answers → (next of_trees of_labels : ℕ) →
    of_trees ≤ sum_of (tree_total p d.is_common_js answers) d.list →
    of_labels ≤ length (injected_labels d) + count_if (list_any d.is_common_js d.list) 2 →
    4294967295 < next + of_trees + of_labels → NeedsTooManyContexts p hooks next
lacks-contexts p hooks d answers its asked next of_trees of_labels trees labels above =
    let few = labels-few d in
    needs-too-many p hooks d its next (sum_of (tree_total p d.is_common_js answers) d.list)
    (trees-count p hooks d.is_common_js answers asked d.list
    (λ m c. (its.modules m c).common_js)) (omega (arith, above, trees, labels, few))
