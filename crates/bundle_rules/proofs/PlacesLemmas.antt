-- The fold over a list, step by step, and the occurrences as a list and by their places.
use Rattle.std.specs.Prelude.{◌≡◌, ◌⊎◌, ℕ, zero, suc, ◌+◌, List, [], ◌∷◌, Option, Some, None, take, fold, slice_get, option_and_then}
use Rattle.std.specs.List.{cons_option}
use mathlib.Core.Path.{sym, ap, ◌∙◌, subst}
use mathlib.Core.Logic.{inl, inr}
use native.Mathlib.Omega.{arith}
use Rattle.std.proofs.lemmas.Option.{none-some, same_Some}
use Rattle.bundle_syntax.specs.declared.piece.Role.TheVariants as r
use Rattle.bundle_syntax.specs.Item as h
use Rattle.bundle_syntax.specs.Item.{Item}
use Rattle.bundle_rules.specs.Places.{Spot, past, start, spot_before, Occurrence, occurrence_of, occurrence_at, occurrences_from, occurrences}

-- behind one item more, from any spot
pub fold_past-take : (s : Spot) (items : List Item) (k : ℕ) (item : Item) → slice_get items k ≡ Some item → fold past s (take (suc k) items) ≡ past (fold past s (take k items)) item
fold_past-take s [] k item e = absurd (none-some item e)
fold_past-take s (x ∷ xs) zero item e = ap (past s) (same_Some x item e)
fold_past-take s (x ∷ xs) (suc k) item e = fold_past-take (past s x) xs k item e

-- the spot behind the next item
pub spot_before-next : (items : List Item) (k : ℕ) (item : Item) → slice_get items k ≡ Some item → spot_before items (k + 1) ≡ past (spot_before items k) item
spot_before-next items k item e = let n : k + 1 ≡ suc k = omega arith in ap (spot_before items) n ∙ fold_past-take start items k item e

-- the spots of a list are numbered in a row
fold_past-place : (s : Spot) (items : List Item) (k : ℕ) (item : Item) → slice_get items k ≡ Some item → (fold past s (take k items)).place ≡ s.place + k
fold_past-place s [] k item e = absurd (none-some item e)
fold_past-place s (x ∷ xs) zero item e = omega arith
fold_past-place s (x ∷ xs) (suc k) item e = let rest = fold_past-place (past s x) xs k item e in omega (arith, rest)

-- an occurrence stands at its spot
occurrence_of-place : (s : Spot) (item : Item) (o : Occurrence) → occurrence_of s item ≡ Some o → o.place ≡ s.place
occurrence_of-place s (h.Open field head) o e = absurd (none-some o e)
occurrence_of-place s (h.Ident field symbol ctxt r.Binding) o e = sym (ap (λ (x : Occurrence). x.place) (same_Some _ o e))
occurrence_of-place s (h.Ident field symbol ctxt r.Reference) o e = sym (ap (λ (x : Occurrence). x.place) (same_Some _ o e))
occurrence_of-place s (h.Ident field symbol ctxt r.Word) o e = absurd (none-some o e)
occurrence_of-place s (h.Hole field) o e = absurd (none-some o e)
occurrence_of-place s h.Close o e = absurd (none-some o e)

-- the occurrence k items behind a spot
abbrev behind : Spot → List Item → ℕ → Option Occurrence
behind s items k = option_and_then (occurrence_of (fold past s (take k items))) (slice_get items k)

-- an element of a list is one of the list with another before it
cons_option-later : {X : Type 0} (first : Option X) (xs : List X) (i : ℕ) (x : X) → slice_get xs i ≡ Some x → (j : ℕ) × (slice_get (cons_option first xs) j ≡ Some x)
cons_option-later None xs i x e = (i, e)
cons_option-later (Some y) xs i x e = (suc i, e)

-- what may be put first stands first
cons_option-first : {X : Type 0} (first : Option X) (xs : List X) (x : X) → first ≡ Some x → (j : ℕ) × (slice_get (cons_option first xs) j ≡ Some x)
cons_option-first None xs x e = absurd (none-some x e)
cons_option-first (Some y) xs x e = (0, e)

-- an element is the first or one of the others
cons_option-cases : {X : Type 0} (first : Option X) (xs : List X) (i : ℕ) (x : X) → slice_get (cons_option first xs) i ≡ Some x → (first ≡ Some x) ⊎ ((j : ℕ) × (slice_get xs j ≡ Some x))
cons_option-cases None xs i x e = inr (i, e)
cons_option-cases (Some y) xs zero x e = inl e
cons_option-cases (Some y) xs (suc i) x e = inr (i, e)

-- what stands at a place is listed
behind-listed : (s : Spot) (items : List Item) (k : ℕ) (o : Occurrence) → behind s items k ≡ Some o → (i : ℕ) × (slice_get (occurrences_from s items) i ≡ Some o)
behind-listed s [] k o e = absurd (none-some o e)
behind-listed s (x ∷ xs) zero o e = cons_option-first (occurrence_of s x) (occurrences_from (past s x) xs) o e
behind-listed s (x ∷ xs) (suc k) o e = let later = behind-listed (past s x) xs k o e in cons_option-later (occurrence_of s x) (occurrences_from (past s x) xs) later.0 o later.1

-- what is listed stands at a place
listed-behind : (s : Spot) (items : List Item) (i : ℕ) (o : Occurrence) → slice_get (occurrences_from s items) i ≡ Some o → (k : ℕ) × (behind s items k ≡ Some o) × (o.place ≡ s.place + k)
listed-behind s [] i o e = absurd (none-some o e)
listed-behind s (x ∷ xs) i o e = here_or_later (λ j f. listed-behind (past s x) xs j o f) (cons_option-cases (occurrence_of s x) (occurrences_from (past s x) xs) i o e)
  where
    here_or_later : ((j : ℕ) → slice_get (occurrences_from (past s x) xs) j ≡ Some o → (k : ℕ) × (behind (past s x) xs k ≡ Some o) × (o.place ≡ (past s x).place + k)) → (occurrence_of s x ≡ Some o) ⊎ ((j : ℕ) × (slice_get (occurrences_from (past s x) xs) j ≡ Some o)) → (k : ℕ) × (behind s (x ∷ xs) k ≡ Some o) × (o.place ≡ s.place + k)
    here_or_later ih (inl here) = let at = occurrence_of-place s x o here in (0, here, omega (arith, at))
    here_or_later ih (inr later) = let rest = ih later.0 later.1 in (suc rest.0, rest.1, omega (arith, rest.2))

-- an occurrence that is listed stands at its place, and what stands at a place is listed
pub occurrences-at : (items : List Item) (i : ℕ) (o : Occurrence) → slice_get (occurrences items) i ≡ Some o → occurrence_at items o.place ≡ Some o
occurrences-at items i o e = let found = listed-behind start items i o e in let same : found.0 ≡ o.place = omega (arith, found.2) in subst (λ p. occurrence_at items p ≡ Some o) same found.1

pub occurrence_at-listed : (items : List Item) (p : ℕ) (o : Occurrence) → occurrence_at items p ≡ Some o → (i : ℕ) × (slice_get (occurrences items) i ≡ Some o)
occurrence_at-listed items p o e = behind-listed start items p o e
