-- A stack from which entries are taken that another entry of the same item lies above.
use Rattle.std.specs.Prelude.{◌≡◌, ℕ, ◌<◌, ◌≤◌, List, length, slice_index}

-- what is kept of a stack, in its order: of each item that is still wanted, an entry at or above
-- each of its entries
pub record IsTopmost (IsWanted : ℕ → Type 0) (stack kept : List ℕ) : Type 0 where
  -- where the entries that are kept were
  pub place : ℕ → ℕ
  pub rises : (k l : ℕ) → k < l → l < length kept → place k < place l
  pub within : (k : ℕ) → k < length kept → place k < length stack
  pub same : (k : ℕ) → k < length kept → slice_index kept k ≡ slice_index stack (place k)
  pub all : (i : ℕ) →
      i < length stack →
      IsWanted (slice_index stack i) →
      (k : ℕ) × (k < length kept) × (i ≤ place k) × (slice_index kept k ≡ slice_index stack i)
