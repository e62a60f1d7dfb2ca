-- The occurrences of each binding, each linked with the one before it.
use Rattle.std.specs.Prelude.{◌≡◌, ◌<◌, ℕ, suc, true, List, Option, Some, None, length, take, slice_get}
use Rattle.bundle_scope_denote.specs.declared.table.Denoted.{Denoted}
use Rattle.bundle_scope_names.specs.declared.uses.Uses.{Uses}
use Rattle.bundle_scope_names.specs.Called.{at}
use Rattle.bundle_scope_names.specs.Turns.{denotes}
use Rattle.bundle_scope_names.specs.Marks.{binding_scopes}

-- how many occurrences come up to one
abbrev pub up_to : Option ℕ → ℕ
up_to None = 0
up_to (Some number) = suc number

-- of so many occurrences this is the last one that denotes a binding
pub record IsLastUse (occurrences : List Denoted) (binding count : ℕ)
    (found : Option ℕ) : Type 0 where
  pub uses :
      binding_scopes (take count occurrences) binding
      ≡ binding_scopes (take (up_to found) occurrences) binding
  pub within : (number : ℕ) → found ≡ Some number → number < count
  pub own : (number : ℕ) →
      found ≡ Some number →
      (o : Denoted) × (slice_get occurrences number ≡ Some o) × (denotes binding o ≡ true)

-- for each binding its last occurrence is known, and for each of its occurrences the one before it
pub record AreUses (occurrences : List Denoted) (uses : Uses) : Type 0 where
  pub last : (binding : ℕ) →
      binding < length uses.last.items →
      IsLastUse occurrences binding (length occurrences) (at uses.last.items binding)
  pub before : (binding number : ℕ) (o : Denoted) →
      binding < length uses.last.items →
      slice_get occurrences number ≡ Some o →
      denotes binding o ≡ true →
      IsLastUse occurrences binding number (at uses.before.items number)
