-- Lists in which each number stands once, and lists of such lists.
use Rattle.std.proofs.Common.{◌≢◌, ℕ, zero, suc, ◌<◌, ◌⊎◌, nat_eq, List, [], ◌∷◌, ◌++◌, length, get_or, Contains, eq-eqb, sym, ◌∙◌, subst, inl, inr, arith}
use Rattle.std.specs.List.{IsDistinct, flat_map}
use Rattle.std.proofs.lemmas.Bool.{false≢true}
use Rattle.std.proofs.lemmas.List.{get_or_default}
use Rattle.std.proofs.lemmas.List.Elements.{Contains-get_or, Contains-append_left, Contains-append_right, Contains-append_cases}
use Rattle.std.proofs.lemmas.Map.Keys.{apart_from_distinct, IsDistinct-tail}
use Rattle.bundle_order_graph.proofs.OrderLemmas.{Contains-head, Contains-tail}

-- each number stands once
abbrev pub IsOnce : List ℕ → Type 0
IsOnce [] = Unit {0}
IsOnce (x ∷ xs) = (Contains xs x → ⊥) × IsOnce xs

pub nothing_in : {y : ℕ} → Contains [] y → ⊥
nothing_in c = omega (arith, c.1)

pub IsOnce-from_distinct : (xs : List ℕ) → IsDistinct nat_eq xs → IsOnce xs
IsOnce-from_distinct [] d = tt
IsOnce-from_distinct (x ∷ xs) d = (λ c. false≢true (sym (apart_from_distinct nat_eq (x ∷ xs) 0 (suc c.0) x d (omega arith) (omega (arith, c.1))) ∙ eq-eqb x (get_or xs c.0 x) (sym c.2)), IsOnce-from_distinct xs (IsDistinct-tail nat_eq x xs d))

-- by places
pub apart_from_once : (xs : List ℕ) → IsOnce xs → (i j : ℕ) → i < j → j < length xs → get_or xs i 0 ≢ get_or xs j 0
apart_from_once [] o i j l m e = omega (arith, m)
apart_from_once (x ∷ xs) o i zero l m e = omega (arith, l)
apart_from_once (x ∷ xs) o zero (suc j) l m e = o.0 (subst (λ y. Contains xs y) (sym e) (Contains-get_or xs j 0 (omega (arith, m))))
apart_from_once (x ∷ xs) o (suc i) (suc j) l m e = apart_from_once xs o.1 i j (omega (arith, l)) (omega (arith, m)) e

pub once_from_apart : (xs : List ℕ) → ((i j : ℕ) → i < j → j < length xs → get_or xs i 0 ≢ get_or xs j 0) → IsOnce xs
once_from_apart [] apart = tt
once_from_apart (x ∷ xs) apart = (λ c. apart 0 (suc c.0) (omega arith) (omega (arith, c.1)) (sym (get_or_default xs c.0 0 x c.1 ∙ c.2)), once_from_apart xs (λ i j l m. apart (suc i) (suc j) (omega (arith, l)) (omega (arith, m))))

-- the end of such a list
pub once-behind : (xs ys : List ℕ) → IsOnce (xs ++ ys) → IsOnce ys
once-behind [] ys o = o
once-behind (x ∷ xs) ys o = once-behind xs ys o.1

-- two lists that have nothing in common
pub once-append : (xs ys : List ℕ) → IsOnce xs → IsOnce ys → ((p : ℕ) → Contains xs p → Contains ys p → ⊥) → IsOnce (xs ++ ys)
once-append [] ys a b apart = b
once-append (x ∷ xs) ys a b apart = (
  λ c. elim (Contains-append_cases xs ys x c) [ inl d ↦ a.0 d | inr d ↦ apart x (Contains-head xs x) d ],
  once-append xs ys a.1 b (λ p c d. apart p (Contains-tail xs x p c) d),
)

-- ---- what stands in some of several lists
abbrev pub InSome : List (List ℕ) → ℕ → Type 0
InSome [] z = ⊥
InSome (xs ∷ lists) z = Contains xs z ⊎ InSome lists z

-- no two of them have anything in common
abbrev pub AreApart : List (List ℕ) → Type 0
AreApart [] = Unit {0}
AreApart (xs ∷ lists) = ((z : ℕ) → Contains xs z → InSome lists z → ⊥) × AreApart lists

-- in each of them each number stands once
abbrev pub AreOnce : List (List ℕ) → Type 0
AreOnce [] = Unit {0}
AreOnce (xs ∷ lists) = IsOnce xs × AreOnce lists

-- one after the other
abbrev pub joined : List (List ℕ) → List ℕ
joined lists = flat_map (λ list. list) lists

pub joined-has : (lists : List (List ℕ)) (z : ℕ) → InSome lists z → Contains (joined lists) z
joined-has [] z h = absurd h
joined-has (xs ∷ lists) z (inl c) = Contains-append_left xs (joined lists) z c
joined-has (xs ∷ lists) z (inr h) = Contains-append_right xs (joined lists) z (joined-has lists z h)

pub joined-in : (lists : List (List ℕ)) (z : ℕ) → Contains (joined lists) z → InSome lists z
joined-in [] z c = nothing_in c
joined-in (xs ∷ lists) z c = step (Contains-append_cases xs (joined lists) z c) (λ d. joined-in lists z d)
  where
    step : Contains xs z ⊎ Contains (joined lists) z → (Contains (joined lists) z → InSome lists z) → InSome (xs ∷ lists) z
    step (inl d) more = inl d
    step (inr d) more = inr (more d)

pub joined-once : (lists : List (List ℕ)) → AreOnce lists → AreApart lists → IsOnce (joined lists)
joined-once [] o a = tt
joined-once (xs ∷ lists) o a = once-append xs (joined lists) o.0 (joined-once lists o.1 a.1) (λ p c d. a.0 p c (joined-in lists p d))
