-- The laws of `==`, of the order and of the hash of the names of bindings.
use Rattle.std.specs.Prelude.{◌≡◌, true}
use Rattle.std.specs.Bool.{Decides}
use Rattle.std.specs.Ordering.{as_partial_cmp, eq_by_cmp, is_eq}
use Rattle.std.specs.Cmp.{IsEquivalence, IsPartialEquivalence, IsPartialOrder, IsTotalOrder, and_equiv, both_tied, first_so, second_so, nat_cmp_total, nat_eq_equiv, on_equiv, on_total, partial_equiv_from_equiv, partial_order_from_agreeing_total, then_total, unsigned_Decides, unsigned_ties}
use Rattle.std.specs.FinMap.{IsAntisymmetric}
use Rattle.std.specs.Cmp.Lexicographic.{nat_list_cmp_total, nat_list_eq_equiv, texts_ties}
use Rattle.std.proofs.Common.{refl, ap, ◌∙◌}
use Rattle.std.proofs.lemmas.Slice.Eq.{bytes_eq-Decides}
use Rattle.bundle_tree.specs.IdName.{IdName, id_name_eq, name_cmp, id_hash_input}

-- the test is an equivalence
pub id_name_eq_equiv : IsEquivalence id_name_eq
id_name_eq_equiv =
    and_equiv (on_equiv (λ (n : IdName). n.symbol) nat_list_eq_equiv)
    (on_equiv (λ (n : IdName). n.context) nat_eq_equiv)

pub name_eq_per : IsPartialEquivalence id_name_eq
name_eq_per = partial_equiv_from_equiv id_name_eq_equiv

-- names of one symbol and one context are the same
pub same_name : (a b : IdName) → a.symbol ≡ b.symbol → a.context ≡ b.context → a ≡ b
same_name a b s c = λ i. record { symbol = s i; context = c i }

-- the test is true exactly of equal names
pub id_name_eq-Decides : (a b : IdName) → Decides (id_name_eq a b) (a ≡ b)
id_name_eq-Decides a b = (
  λ e.
      same_name a b ((bytes_eq-Decides _ _).0 (first_so _ _ e))
      ((unsigned_Decides _ _).0 (second_so _ _ e)),
  λ e. ap (λ n. id_name_eq n b) e ∙ id_name_eq_equiv.refl b,
)

-- the order is total
pub name_cmp_total : IsTotalOrder name_cmp
name_cmp_total =
    then_total (on_total (λ (n : IdName). n.symbol) nat_list_cmp_total)
    (on_total (λ (n : IdName). n.context) nat_cmp_total)

-- it answers `Equal` exactly where the test holds
pub name_cmp-ties : (a b : IdName) → id_name_eq a b ≡ eq_by_cmp name_cmp a b
name_cmp-ties a b =
    both_tied _ _ _ _ (texts_ties a.symbol b.symbol) (unsigned_ties a.context b.context)

-- names that tie are the same
pub name_cmp-IsAntisymmetric : IsAntisymmetric name_cmp
name_cmp-IsAntisymmetric a b e = (id_name_eq-Decides a b).0 (name_cmp-ties a b ∙ ap is_eq e)

pub name_cmp_po : IsPartialOrder id_name_eq (as_partial_cmp name_cmp)
name_cmp_po = partial_order_from_agreeing_total name_cmp name_cmp_total (λ a b. refl) name_cmp-ties

-- equal names are hashed alike
pub name_hash_alike : (a b : IdName) → id_name_eq a b ≡ true → id_hash_input a ≡ id_hash_input b
name_hash_alike a b e = ap id_hash_input ((id_name_eq-Decides a b).0 e)
