-- The laws of `==` and of the hash of file names.
use Rattle.std.specs.Prelude.{◌≡◌, true, List, ℕ}
use Rattle.std.specs.Bool.{Decides}
use Rattle.std.specs.Cmp.{IsEquivalence, IsPartialEquivalence, partial_equiv_from_equiv, on_per, on_equiv}
use Rattle.std.specs.Cmp.Lexicographic.{nat_list_eq_equiv}
use Rattle.std.proofs.Common.{refl, sym, ap, true≢false}
use Rattle.std.proofs.lemmas.Slice.Eq.{bytes_eq-Decides}
use Rattle.bundle_tree_names.specs.FileName.{Name, real, custom, name_of, name_eq, hash_input_of}
use Rattle.bundle_tree_names.specs.declared.file_name.FileName.{FileName}

-- the test is true exactly of equal names
pub name_eq-Decides : (a b : Name) → Decides (name_eq a b) (a ≡ b)
name_eq-Decides (real a) (real b) =
    (λ e. ap real ((bytes_eq-Decides a b).0 e), λ e. (bytes_eq-Decides a b).1 (same a b e))
  where
    same : (x y : List ℕ) → real x ≡ real y → x ≡ y
    same x y e = cc
name_eq-Decides (real a) (custom b) = (λ e. absurd (true≢false (sym e)), λ e. cc)
name_eq-Decides (custom a) (real b) = (λ e. absurd (true≢false (sym e)), λ e. cc)
name_eq-Decides (custom a) (custom b) =
    (λ e. ap custom ((bytes_eq-Decides a b).0 e), λ e. (bytes_eq-Decides a b).1 (same a b e))
  where
    same : (x y : List ℕ) → custom x ≡ custom y → x ≡ y
    same x y e = cc

name_eq-symm : (a b : Name) → name_eq a b ≡ name_eq b a
name_eq-symm (real a) (real b) = nat_list_eq_equiv.symm a b
name_eq-symm (real a) (custom b) = refl
name_eq-symm (custom a) (real b) = refl
name_eq-symm (custom a) (custom b) = nat_list_eq_equiv.symm a b

-- the test is an equivalence
pub name_eq_equiv : IsEquivalence name_eq
name_eq_equiv = record {
  refl = λ a. (name_eq-Decides a a).1 refl;
  symm = name_eq-symm;
  congr = λ a b c e. ap (λ n. name_eq n c) ((name_eq-Decides a b).0 e);
}

-- `==` of file names is an equivalence
pub file_name_eq_equiv : IsEquivalence (λ (a b : FileName). name_eq (name_of a) (name_of b))
file_name_eq_equiv = on_equiv name_of name_eq_equiv

pub file_name_eq_per : IsPartialEquivalence (λ (a b : FileName). name_eq (name_of a) (name_of b))
file_name_eq_per = on_per name_of (partial_equiv_from_equiv name_eq_equiv)

-- equal file names are hashed alike
pub file_name_hash_alike : (a b : FileName) →
    name_eq (name_of a) (name_of b) ≡ true →
    hash_input_of (name_of a) ≡ hash_input_of (name_of b)
file_name_hash_alike a b e = ap hash_input_of ((name_eq-Decides (name_of a) (name_of b)).0 e)
