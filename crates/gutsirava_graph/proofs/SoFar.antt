-- What is made one by one of a list, as far as a loop has come.
use Rattle.std.proofs.Common.{◌≡◌, List, [], ◌∷◌, ◌++◌, sym, subst, append_assoc, append-nil}
use Rattle.std.specs.List.{AllZip}

-- these are made of those of which these are left
abbrev pub AreSoFar : {A B : Type 0} → (A → B → Type 0) → (all rest : List A) → List B → Type 0
AreSoFar {B = B} R all rest made = (more : List B) → AllZip R rest more → AllZip R all (made ++ more)

pub none_so_far : {A B : Type 0} (R : A → B → Type 0) (all rest : List A) (made : List B) →
    rest ≡ all → made ≡ [] → AreSoFar R all rest made
none_so_far R all rest made same none = λ more are.
    subst (λ xs. AllZip R all (xs ++ more)) (sym none) (subst (λ xs. AllZip R xs more) same are)

pub more_so_far : {A B : Type 0} (R : A → B → Type 0) (all rest left : List A) (made now : List B) (x : A) (y : B) →
    rest ≡ x ∷ left → now ≡ made ++ y ∷ [] → R x y → AreSoFar R all rest made → AreSoFar R all left now
more_so_far R all rest left made now x y is_rest is_now is so_far = λ more are.
    subst (λ xs. AllZip R all (xs ++ more)) (sym is_now)
    (subst (λ xs. AllZip R all xs) (sym (append_assoc made (y ∷ []) more))
    (so_far (y ∷ more) (subst (λ xs. AllZip R xs (y ∷ more)) (sym is_rest) (is, are))))

pub all_so_far : {A B : Type 0} (R : A → B → Type 0) (all rest : List A) (made : List B) →
    rest ≡ [] → AreSoFar R all rest made → AllZip R all made
all_so_far R all rest made none so_far =
    subst (λ xs. AllZip R all xs) (append-nil made) (so_far [] (subst (λ xs. AllZip R xs []) (sym none) tt))
