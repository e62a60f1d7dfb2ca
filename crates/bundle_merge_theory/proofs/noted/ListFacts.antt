-- Elements of lists, and what is left of a list from a place on. (bundle_link's module of this
-- name is not handed on.)
use Rattle.std.proofs.Common.{◌≡◌, ◌⊎◌, inl, inr, zero, suc, List, [], ◌∷◌, arith}
use Rattle.std.specs.Prelude.{Contains}

pub none-there : {A B : Type 0} (x : A) → Contains [] x → B
none-there x (i, l, e) = absurd (omega arith)

pub later-there : {A : Type 0} (y : A) (xs : List A) (x : A) → Contains xs x → Contains (y ∷ xs) x
later-there y xs x (i, l, e) = (suc i, omega (arith, l), e)

pub there-cases : {A : Type 0} (y : A) (xs : List A) (x : A) → Contains (y ∷ xs) x →
    (y ≡ x) ⊎ Contains xs x
there-cases y xs x (zero, l, e) = inl e
there-cases y xs x (suc i, l, e) = inr (i, omega arith, e)
