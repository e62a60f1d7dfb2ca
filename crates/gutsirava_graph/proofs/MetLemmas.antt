-- A list without repeats, and the set beside it, as they grow.
use Rattle.std.proofs.Common.{◌≡◌, ℕ, true, false, List, [], ◌∷◌, ◌++◌, subst, sym, ◌∙◌, ap, nat_eq, arith}
use Rattle.std.specs.Ordering.{nat_cmp}
use Rattle.std.specs.Cmp.{nat_eq_equiv}
use Rattle.std.specs.List.{IsDistinct, list_any}
use Rattle.std.specs.BTreeMap.{is_at}
use Rattle.std.specs.BTreeSet.{BTreeSet, Updates, contains}
use Rattle.std.proofs.lemmas.Grind.{common_steps}
use Rattle.std.proofs.lemmas.List.Folds.{list_any-append}
use Rattle.std.proofs.lemmas.Map.Keys.{IsDistinct-push}
use Rattle.gutsirava_graph.specs.Met.{IsSetOf}

no_repeats : IsDistinct nat_eq []
unfolding IsDistinct
no_repeats = tt

-- none
pub set_none : (list : List ℕ) (all : BTreeSet ℕ) → list ≡ [] → all.keys ≡ [] → IsSetOf list all
set_none list all none empty = subst (λ (those : List ℕ). IsSetOf those all) (sym none) (record {
  once = no_repeats;
  same = λ q. ap (λ (keys : List ℕ). list_any (λ k. is_at (nat_cmp q) k) keys) empty;
})

-- a number that was not there
pub set_more : (list : List ℕ) (old new : BTreeSet ℕ) (n : ℕ) → IsSetOf list old → contains nat_cmp old n ≡ false → Updates nat_cmp old new n true
    → IsSetOf (list ++ n ∷ []) new
set_more list old new n set absent updates = record {
  once = IsDistinct-push nat_eq_equiv list n set.once (sym (set.same n) ∙ absent);
  same = λ q. grind (arith, common_steps, updates.0 q, set.same q, list_any-append (nat_eq q) list (n ∷ []));
}
