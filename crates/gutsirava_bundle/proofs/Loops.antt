-- What is made one by one of two lists, as far as a loop has come.
use Rattle.std.proofs.Common.{◌≡◌, ◌⊎◌, ℕ, ◌+◌, ◌<◌, ◌≤◌, List, [], ◌∷◌, ◌++◌, length, get_or, take, inl, inr, sym, ap, subst, ◌∙◌, arith}
use Rattle.std.proofs.lemmas.List.{nil_from_length, take_all, take_more}
use Rattle.std.proofs.lemmas.Slice.Zip.{all_zipped_more}
use Rattle.std.specs.List.{AllZip}

-- one more is made of the next one
pub zip_more : {A B : Type 0} (R : A → B → Type 0) (xs : List A) (i : ℕ) (x : A) (ys now : List B) (y : B) → i < length xs → x ≡ get_or xs i x → now ≡ ys ++ y ∷ [] → AllZip R (take i xs) ys → R x y → AllZip R (take (i + 1) xs) now
zip_more R xs i x ys now y within at is_now before is =
    let front : take (i + 1) xs ≡ take i xs ++ x ∷ [] = take_more xs i x within ∙ ap (λ it. take i xs ++ it ∷ []) (sym at) in
    subst (λ it. AllZip R it now) (sym front) (subst (λ it. AllZip R (take i xs ++ x ∷ []) it) (sym is_now) (all_zipped_more R (take i xs) ys x y before is))

pub zip_all : {A B : Type 0} (R : A → B → Type 0) (xs : List A) (i : ℕ) (ys : List B) → length xs ≤ i → AllZip R (take i xs) ys → AllZip R xs ys
zip_all R xs i ys over so_far = subst (λ it. AllZip R it ys) (take_all i xs over) so_far

-- where one of two lists of one length is passed, so is the other
pub both_passed : {A B : Type 0} (xs first : List A) (ys second : List B) → length first + length ys ≡ length second + length xs → length xs ≡ length ys → (first ≡ []) ⊎ (second ≡ []) → (first ≡ []) × (second ≡ [])
both_passed xs first ys second count same (inl none) = (none, nil_from_length second (omega (arith, count, same, ap length none)))
both_passed xs first ys second count same (inr none) = (nil_from_length first (omega (arith, count, same, ap length none)), none)
