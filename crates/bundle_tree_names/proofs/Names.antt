-- What callers cite of file names and of their numbers.
use Rattle.std.proofs.Common.{◌≡◌, ◌≢◌, ℕ, suc, zero, ◌+◌, ◌*◌, List, [], ◌∷◌, ◌++◌, length, slice_get, Some, Contains, refl, sym, ap, subst, ◌∙◌, ◌⊎◌, inl, inr, arith}
use Rattle.std.proofs.lemmas.Option.{slice_get_within, slice_get-get_or, get_or_from_slice_get, same_Some}
use Rattle.std.proofs.lemmas.List.Elements.{Contains-get_or}
use Rattle.bundle_tree_names.specs.FileName.{Name}
use Rattle.bundle_tree_names.specs.ModuleIdGenerator.{IsDistinct}

-- what a place of a list has is in the list
pub Contains-slice_get : (names : List Name) (i : ℕ) (name : Name) → slice_get names i ≡ Some name → Contains names name
Contains-slice_get names i name at =
    subst (Contains names) (get_or_from_slice_get names i name name at) (Contains-get_or names i name (slice_get_within names i name at))

-- what is in a list has a place
pub place-Contains : (names : List Name) (name : Name) → Contains names name → (i : ℕ) × (slice_get names i ≡ Some name)
place-Contains names name h = (h.0, slice_get-get_or names h.0 name h.1 ∙ ap Some h.2)

-- a place keeps its name when a list grows at its end
pub slice_get-grown : (names more : List Name) (i : ℕ) (name : Name) → slice_get names i ≡ Some name → slice_get (names ++ more) i ≡ Some name
slice_get-grown [] more i name at = cc
slice_get-grown (x ∷ xs) more zero name at = at
slice_get-grown (x ∷ xs) more (suc i) name at = slice_get-grown xs more i name at

-- a name that is put at the end stands at the old length
pub slice_get-last : (names : List Name) (name : Name) → slice_get (names ++ name ∷ []) (length names) ≡ Some name
slice_get-last [] name = refl
slice_get-last (x ∷ xs) name = slice_get-last xs name

-- what a list with one more name at its end has at a place: what it had, or that name
pub slice_get-push_cases : (names : List Name) (name : Name) (i : ℕ) (n : Name) → slice_get (names ++ name ∷ []) i ≡ Some n → (slice_get names i ≡ Some n) ⊎ ((i ≡ length names) × (n ≡ name))
slice_get-push_cases [] name zero n at = inr (refl, sym (same_Some name n at))
slice_get-push_cases [] name (suc i) n at = cc
slice_get-push_cases (x ∷ xs) name zero n at = inl at
slice_get-push_cases (x ∷ xs) name (suc i) n at =
    elim (slice_get-push_cases xs name i n at) [ inl a ↦ inl a | inr p ↦ inr (ap suc p.0, p.1) ]

-- the names at two places are the same exactly if the places are
pub same_place : (names : List Name) → IsDistinct names → (i j : ℕ) (a b : Name) → slice_get names i ≡ Some a → slice_get names j ≡ Some b → (i ≡ j → a ≡ b) × (a ≡ b → i ≡ j)
same_place names distinct i j a b at_i at_j =
    (λ e. same_Some a b (sym at_i ∙ ap (slice_get names) e ∙ at_j), λ e. distinct.one_place i j b (at_i ∙ ap Some e) at_j)

-- no name stands twice in the empty list
pub IsDistinct-nil : IsDistinct []
IsDistinct-nil = record { one_place = λ i j name at. cc }

-- a list of distinct names stays one when a new name is put at its end
pub IsDistinct-push : (names : List Name) (name : Name) → IsDistinct names → (Contains names name → ⊥) → IsDistinct (names ++ name ∷ [])
IsDistinct-push names name distinct absent = record {
  one_place = λ i j n at_i at_j.
      elim (slice_get-push_cases names name i n at_i) [
        | inl a ↦ elim (slice_get-push_cases names name j n at_j) [ inl b ↦ distinct.one_place i j n a b | inr q ↦ absurd (absent (Contains-slice_get names i name (a ∙ ap Some q.1))) ]
        | inr p ↦ elim (slice_get-push_cases names name j n at_j) [ inl b ↦ absurd (absent (Contains-slice_get names j name (b ∙ ap Some p.1))) | inr q ↦ p.0 ∙ sym q.0 ]
      ];
}

-- no context of its own is one of exports, and none serves two modules
pub contexts_apart : (i j : ℕ) → (2 * i + 2 ≢ 2 * j + 3) × (2 * i + 2 ≡ 2 * j + 2 → i ≡ j) × (2 * i + 3 ≡ 2 * j + 3 → i ≡ j)
contexts_apart i j = (λ e. omega arith, λ e. omega arith, λ e. omega arith)
