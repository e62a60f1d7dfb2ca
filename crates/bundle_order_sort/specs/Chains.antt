-- Chains of needs that rank lower and lower, the ends that are noted for them, and the needs that
-- an item waits for no more.
use Rattle.std.specs.Prelude.{◌≡◌, ℕ, ◌<◌, ◌≤◌, ◌++◌, ◌⊎◌, false, List, [], length, slice_index, slice_index_or}
use Rattle.bundle_order_graph.specs.Walks.{Path}
use Rattle.bundle_order_sort.specs.declared.stack.Progress.{Progress}
use Rattle.bundle_order_sort.specs.Numbers.{NeedsNumber, IsOut, is_awaited}

-- a path of needs leads from item s to t, which ranks lower
pub record Falls (needs : List (List ℕ)) (ranks : List ℕ) (s t : ℕ) : Type 0 where
  pub path : Path (NeedsNumber needs) s t
  pub lower : slice_index ranks t < slice_index ranks s

-- item s waits for none of those that it needs
abbrev pub WaitsForNone : List (List ℕ) → List ℕ → List Progress → ℕ → Type 0
WaitsForNone needs ranks progress s =
    (t : ℕ) → NeedsNumber needs s t → is_awaited ranks progress s t ≡ false

-- the stack grows by a chain of item s: its items are not out, paths of needs lead to them, and
-- there are at most as many as s ranks
pub record AddsChain
    (needs : List (List ℕ)) (ranks : List ℕ) (progress : List Progress) (s : ℕ)
    (old new : List ℕ) : Type 0 where
  pub chain : List ℕ
  pub grown : new ≡ old ++ chain
  pub falls : (k : ℕ) → k < length chain → Falls needs ranks s (slice_index chain k)
  pub left : (k : ℕ) → k < length chain → IsOut progress (slice_index chain k) → ⊥
  pub short : length chain ≤ slice_index ranks s

-- what is noted for each item: an end, which is the item itself or lies on a chain of it, and a
-- cursor, before which it waits for none of its needs
pub record AreChains
    (needs : List (List ℕ)) (ranks : List ℕ) (progress : List Progress)
    (ends cursors : List ℕ) : Type 0 where
  pub ranks_len : length ranks ≡ length needs
  pub progress_len : length progress ≡ length needs
  pub ends_len : length ends ≡ length needs
  pub cursors_len : length cursors ≡ length needs
  pub within : (s t : ℕ) → NeedsNumber needs s t → t < length needs
  pub end : (s : ℕ) →
      s < length needs →
      (slice_index ends s ≡ s) ⊎ Falls needs ranks s (slice_index ends s)
  pub passed : (s k : ℕ) →
      k < slice_index cursors s →
      k < length (slice_index_or needs s []) →
      is_awaited ranks progress s (slice_index (slice_index_or needs s []) k) ≡ false
