-- Numbers stay what they are as the table grows.
use Rattle.std.proofs.Common.{◌≡◌, ℕ, zero, suc, List, [], ◌∷◌, ◌++◌, Option, Some, None, length, refl, ap, ◌∙◌}
use Rattle.std.specs.Prelude.{slice_get}
use Rattle.std.specs.List.{AllZip}
use Rattle.std.proofs.lemmas.Option.{none-some}
use Rattle.bundle_rules.specs.Scopes as s
use Rattle.bundle_scope_denote.specs.Numbers.{NumberedScope, AreAround, KeepsNumbers}

-- what is added behind changes no number
pub Keeps-append : {X : Type 0} (xs ys : List X) → KeepsNumbers xs (xs ++ ys)
Keeps-append [] ys number x e = absurd (none-some x e)
Keeps-append (first ∷ rest) ys zero x e = e
Keeps-append (first ∷ rest) ys (suc number) x e = Keeps-append rest ys number x e

-- nor does adding nothing
pub Keeps-same : {X : Type 0} (xs ys : List X) → ys ≡ xs → KeepsNumbers xs ys
Keeps-same xs ys e number x at = ap (λ l. slice_get l number) e ∙ at

-- nor does adding twice
pub Keeps-twice : {X : Type 0} (xs ys zs : List X) → KeepsNumbers xs ys → KeepsNumbers ys zs → KeepsNumbers xs zs
Keeps-twice xs ys zs first second number x at = second number x (first number x at)

-- what is added has the next number
pub slice_get-next : {X : Type 0} (xs : List X) (x : X) → slice_get (xs ++ x ∷ []) (length xs) ≡ Some x
slice_get-next [] x = refl
slice_get-next (first ∷ rest) x = slice_get-next rest x

-- the scopes around are the same in a table that has grown
pub AreAround-keeps : (old new : List NumberedScope) → KeepsNumbers old new → (number : Option ℕ) (scopes : List s.Scope) → AreAround old number scopes → AreAround new number scopes
AreAround-keeps old new keeps None [] around = around
AreAround-keeps old new keeps None (scope ∷ outer) around = around
AreAround-keeps old new keeps (Some number) [] around = around
AreAround-keeps old new keeps (Some number) (scope ∷ outer) around = (around.0, keeps number around.0 around.1, around.2, AreAround-keeps old new keeps around.0.outer outer around.3)

-- what holds of two lists in turn holds in a weaker form
pub AllZip-weaker : {A B : Type 0} (R S : A → B → Type 0) → ((a : A) (b : B) → R a b → S a b) → (xs : List A) (ys : List B) → AllZip R xs ys → AllZip S xs ys
AllZip-weaker R S weaker [] [] all = all
AllZip-weaker R S weaker [] (y ∷ ys) all = all
AllZip-weaker R S weaker (x ∷ xs) [] all = all
AllZip-weaker R S weaker (x ∷ xs) (y ∷ ys) all = (weaker x y all.0, AllZip-weaker R S weaker xs ys all.1)
