-- Elements of a list by their places.
use Rattle.std.proofs.Common.{◌≡◌, ℕ, zero, suc, ◌+◌, Bool, cond, List, [], ◌∷◌, ◌++◌, Some, map, take, drop, refl, ap, sym, ◌∙◌, arith, zero-add}
use Rattle.std.specs.Prelude.{slice_get, count_by}
use Rattle.std.proofs.lemmas.Option.{none-some, same_Some}
use Rattle.std.proofs.Math.Seq.{take-add}
use Rattle.std.proofs.lemmas.List.{take-map}
use Rattle.std.proofs.lemmas.List.Folds.{fold-map}
use Rattle.std.proofs.lemmas.List.Sums.{sum_by-append, sum_by-cons}

-- an element behind a place
pub slice_get-drop : {A : Type 0} (n : ℕ) (xs : List A) (k : ℕ) → slice_get (drop n xs) k ≡ slice_get xs (n + k)
slice_get-drop zero xs k = ap (slice_get xs) (sym (zero-add k))
slice_get-drop (suc n) [] k = refl
slice_get-drop (suc n) (x ∷ xs) k = let n_k : suc n + k ≡ suc (n + k) = omega arith in slice_get-drop n xs k ∙ sym (ap (slice_get (x ∷ xs)) n_k)

-- the elements from a place on are that one and those behind it
pub drop_at : {A : Type 0} (xs : List A) (k : ℕ) (x : A) → slice_get xs k ≡ Some x → drop k xs ≡ x ∷ drop (suc k) xs
drop_at [] k x e = absurd (none-some x e)
drop_at (y ∷ xs) zero x e = ap (λ z. z ∷ xs) (same_Some y x e)
drop_at (y ∷ xs) (suc k) x e = drop_at xs k x e

-- the elements up to a place
pub take_at : {A : Type 0} (xs : List A) (k : ℕ) (x : A) → slice_get xs k ≡ Some x → take (suc k) xs ≡ take k xs ++ x ∷ []
take_at [] k x e = absurd (none-some x e)
take_at (y ∷ xs) zero x e = ap (λ z. z ∷ []) (same_Some y x e)
take_at (y ∷ xs) (suc k) x e = ap (λ zs. y ∷ zs) (take_at xs k x e)

-- a count over two lists
pub count_by-append : {A : Type 0} (p : A → Bool) (xs ys : List A) → count_by p (xs ++ ys) ≡ count_by p xs + count_by p ys
count_by-append p xs ys = sum_by-append (λ x. cond (p x) 1 0) xs ys

-- a count over what a list is mapped to
pub count_by-map : {A B : Type 0} (p : B → Bool) (f : A → B) (xs : List A) → count_by p (map f xs) ≡ count_by (λ x. p (f x)) xs
count_by-map p f xs = fold-map (λ n x. n + cond (p x) 1 0) f 0 xs

-- a count over a list with one more element before it
pub count_by-cons : {A : Type 0} (p : A → Bool) (x : A) (xs : List A) → count_by p (x ∷ xs) ≡ cond (p x) 1 0 + count_by p xs
count_by-cons p x xs = sum_by-cons (λ y. cond (p y) 1 0) x xs

-- a count over the first elements
pub count_by-take-add : {A : Type 0} (p : A → Bool) (n k : ℕ) (xs : List A) → count_by p (take (n + k) xs) ≡ count_by p (take n xs) + count_by p (take k (drop n xs))
count_by-take-add p n k xs = ap (count_by p) (take-add n k xs) ∙ count_by-append p (take n xs) (take k (drop n xs))

-- a count over the first elements of what a list is mapped to
pub count_by-take-map : {A B : Type 0} (p : B → Bool) (f : A → B) (n : ℕ) (xs : List A) → count_by p (take n (map f xs)) ≡ count_by (λ x. p (f x)) (take n xs)
count_by-take-map p f n xs = ap (count_by p) (take-map f n xs) ∙ count_by-map p f (take n xs)
