-- Tests over two lists that agree in turn.
use Rattle.std.proofs.Common.{◌≡◌, ℕ, zero, suc, Bool, true, false, cond, ◌||◌, List, [], ◌∷◌, Option, Some, None, find, refl, ap, sym, ◌∙◌, subst}
use Rattle.std.specs.Prelude.{slice_get}
use Rattle.std.specs.List.{AllZip, list_any}
use Rattle.std.proofs.lemmas.Option.{none-some, same_Some}

-- two options hold what is related, or nothing
abbrev pub BothOrNone : {A B : Type 0} → (A → B → Type 0) → Option A → Option B → Type 0
BothOrNone R None None = Unit {0}
BothOrNone R (Some x) (Some y) = R x y
BothOrNone R None (Some y) = ⊥
BothOrNone R (Some x) None = ⊥

-- the second has at a number what agrees with the first
pub AllZip-at : {A B : Type 0} (R : A → B → Type 0) (xs : List A) (ys : List B) (number : ℕ) (x : A) → AllZip R xs ys → slice_get xs number ≡ Some x → (y : B) × (slice_get ys number ≡ Some y) × R x y
AllZip-at R [] ys number x all at = absurd (none-some x at)
AllZip-at R (first ∷ xs) [] number x all at = absurd all
AllZip-at R (first ∷ xs) (second ∷ ys) zero x all at = (second, refl, subst (λ z. R z second) (same_Some first x at) all.0)
AllZip-at R (first ∷ xs) (second ∷ ys) (suc number) x all at = AllZip-at R xs ys number x all.1 at

-- and the first what agrees with the second
pub AllZip-at_second : {A B : Type 0} (R : A → B → Type 0) (xs : List A) (ys : List B) (number : ℕ) (y : B) → AllZip R xs ys → slice_get ys number ≡ Some y → (x : A) × (slice_get xs number ≡ Some x) × R x y
AllZip-at_second R [] [] number y all at = absurd (none-some y at)
AllZip-at_second R [] (second ∷ ys) number y all at = absurd all
AllZip-at_second R (first ∷ xs) [] number y all at = absurd (none-some y at)
AllZip-at_second R (first ∷ xs) (second ∷ ys) zero y all at = (first, refl, subst (λ z. R first z) (same_Some second y at) all.0)
AllZip-at_second R (first ∷ xs) (second ∷ ys) (suc number) y all at = AllZip-at_second R xs ys number y all.1 at

-- tests that agree find what agrees
pub find-zipped : {A B : Type 0} (R : A → B → Type 0) (p : A → Bool) (q : B → Bool) → ((a : A) (b : B) → R a b → p a ≡ q b) → (xs : List A) (ys : List B) → AllZip R xs ys → BothOrNone R (find p xs) (find q ys)
find-zipped R p q same [] [] all = tt
find-zipped R p q same [] (y ∷ ys) all = absurd all
find-zipped R p q same (x ∷ xs) [] all = absurd all
find-zipped R p q same (x ∷ xs) (y ∷ ys) all = subst (λ t. BothOrNone R (cond t (Some x) (find p xs)) (find q (y ∷ ys))) (sym (same x y all.0)) (by (find-zipped R p q same xs ys all.1) (q y))
  where
    by : BothOrNone R (find p xs) (find q ys) → (t : Bool) → BothOrNone R (cond t (Some x) (find p xs)) (cond t (Some y) (find q ys))
    by later true = all.0
    by later false = later

-- and so does whether any passes
pub list_any-zipped : {A B : Type 0} (R : A → B → Type 0) (p : A → Bool) (q : B → Bool) → ((a : A) (b : B) → R a b → p a ≡ q b) → (xs : List A) (ys : List B) → AllZip R xs ys → list_any p xs ≡ list_any q ys
list_any-zipped R p q same [] [] all = refl
list_any-zipped R p q same [] (y ∷ ys) all = absurd all
list_any-zipped R p q same (x ∷ xs) [] all = absurd all
list_any-zipped R p q same (x ∷ xs) (y ∷ ys) all = ap (λ t. t || list_any p xs) (same x y all.0) ∙ ap (λ t. q y || t) (list_any-zipped R p q same xs ys all.1)
