-- Modules by their places in the list of a program: which are reached, their list, and what is
-- decided of them.
use Rattle.std.proofs.Common.{◌≡◌, ◌↔◌, ℕ, zero, ◌<◌, List, Option, Some, length, sym, ap, ◌∙◌, subst}
use Rattle.std.specs.Prelude.{unwrap_or}
use Rattle.std.specs.Option.{option_and_then}
use Rattle.std.proofs.lemmas.Option.{slice_get_within, slice_get-get_or}
use Rattle.bundle_rules.specs.Nodes.{Text}
use Rattle.bundle_rules.specs.Program.{Program, IsReached, IsList}
use Rattle.bundle_link.specs.Alike.{IsModuleAt}
use Rattle.bundle_link.proofs.PlacedLemmas.{IsPlaced, placed, is_alike}
use Rattle.bundle_merge_theory.specs.planned.Decided.{index_of}
use Rattle.bundle_merge_theory.specs.planned.Placed.{id_at}
use Rattle.bundle_merge_theory.proofs.planned.OrderLemmas.{contains-get}
use Rattle.bundle_merge_theory.proofs.planned.RequestLemmas.{list-reached}
use Rattle.bundle_merge_theory.proofs.moved.Owed.{AreMoved, AreRenamed}
use Rattle.bundle_merge_theory.proofs.moved.Due.{turned-round, reach-named, reach-by}
use Rattle.bundle_merge_theory.proofs.moved.Moved.{places-renamed}

-- The end of the list.

module _ (p q : Program) (list : List ℕ) (its : AreMoved p q list) (is : IsList p list) where
  abbrev name : ℕ → ℕ
  name = id_at list

  abbrev place : ℕ → ℕ
  place m = index_of m list

  abbrev its_q : AreRenamed q p (λ k m. IsModuleAt list m k) name place
  its_q = places-renamed p q list its

  abbrev its_p : AreRenamed p q (IsModuleAt list) place name
  its_p = turned-round its_q

  at-place : (k : ℕ) → k < length list → IsModuleAt list (name k) k
  at-place k below =
      let e = slice_get-get_or list k zero below in
      e ∙ ap (λ x. Some x) (sym (ap (λ o. unwrap_or o zero) e))

  place-back : (k : ℕ) → k < length list → place (name k) ≡ k
  place-back k below = its_q.backs k (name k) (at-place k below)

  -- the reached modules are the places of the list
  pub places-reached : (k : ℕ) → IsReached q k ↔ (k < length list)
  places-reached k = (
    λ reached. slice_get_within list k (name k)
        (reach-named q p (λ k m. IsModuleAt list m k) name place its_q k reached),
    λ below.
        let at = at-place k below in
        subst (IsReached q) (place-back k below)
        (reach-by p q (IsModuleAt list) place name its_p (name k)
        ((list-reached p list is (name k)).0 (contains-get list k (name k) at))),
  )

-- The same from what is found.

-- a program that has the modules of another by their places
pub placed-moved : (p : Program) (list : List ℕ) (leads : ℕ → Text → Option ℕ) (entry : ℕ) →
    IsPlaced p list leads entry → AreMoved p (placed p list leads entry) list
placed-moved p list leads entry its = record {
  alike = is_alike p list leads entry its;
  modules = λ m k at. ap (option_and_then p.modules) (sym at);
}
