-- The promise over numbers alone: which item needs which, a rank for each item, and the first item
-- of each item's module.
use Rattle.std.specs.Prelude.{◌≡◌, ℕ, ◌<◌, ◌≤◌, ◌&&◌, ◌||◌, ◌↔◌, Bool, true, false, not, nat_eq, nat_lt, List, [], slice_get, slice_index, slice_index_or, Some, Contains}
use Rattle.std.specs.List.{IsDistinct}
use Rattle.bundle_order_graph.specs.Walks.{Path, IsSettled}
use Rattle.bundle_order_sort.specs.declared.stack.Progress.{Progress}

-- the list of item s has item t
abbrev pub NeedsNumber : List (List ℕ) → ℕ → ℕ → Type 0
NeedsNumber needs s t = Contains (slice_index_or needs s []) t

-- t is an earlier item of the module of s; `firsts` has for each item the first of its module, and
-- for a free item that item itself
abbrev pub IsEarlierNumber : List ℕ → ℕ → ℕ → Type 0
IsEarlierNumber firsts s t = (slice_index firsts s ≤ t) × (t < s)

-- a step leads from an item to one that it needs, or to an earlier one of its module
pub data NumberStep (N : ℕ → ℕ → Type 0) (firsts : List ℕ) (s t : ℕ) : Type 0 where
  by_need : N s t → NumberStep N firsts s t
  by_own_order : IsEarlierNumber firsts s t → NumberStep N firsts s t

-- a stands before b
pub record IsListedBefore (order : List ℕ) (a b : ℕ) : Type 0 where
  pub i : ℕ
  pub j : ℕ
  pub before : i < j
  pub first : slice_get order i ≡ Some a
  pub second : slice_get order j ≡ Some b

-- the order of so many items that is promised, where N tells what an item needs. Own order: an item
-- stands before an earlier one of its module only where a path of steps leads from that one back to
-- it. Needs: an item stands before one that it needs only where that one does not rank below it,
-- and a path of steps leads from it to itself. Numbers: the items below a bound stand as they are
-- numbered, where they are settled
pub record IsInOrder (N : ℕ → ℕ → Type 0) (count : ℕ) (ranks firsts order : List ℕ) : Type 0 where
  pub all : (s : ℕ) → (s < count) ↔ Contains order s
  pub once : IsDistinct nat_eq order
  pub own : (s t : ℕ) → IsEarlierNumber firsts s t → IsListedBefore order s t →
      Path (NumberStep N firsts) t s
  pub needed : (s t : ℕ) →
      N s t →
      IsListedBefore order s t →
      (slice_index ranks s ≤ slice_index ranks t) × Path (NumberStep N firsts) s s
  pub as_numbered : (bound s t : ℕ) →
      bound ≤ count →
      IsSettled (NumberStep N firsts) bound →
      s < bound →
      t < bound →
      IsListedBefore order s t →
      s < t

-- How far the sort has come.

-- what is known of an item before it is looked at; past the last one too
abbrev pub unknown : Progress
unknown = record { out = false; begun = false; next = 0 }

-- what is known of an item at first, where `first` is the first item of its module
abbrev pub fresh : ℕ → Progress
fresh first = record { out = false; begun = false; next = first }

abbrev pub progress_of : List Progress → ℕ → Progress
progress_of progress t = slice_index_or progress t unknown

-- item t is out
abbrev pub IsOut : List Progress → ℕ → Type 0
IsOut progress t = (progress_of progress t).out ≡ true

-- whether item s waits for t, which it needs: t is not out, and it ranks below s or s was not begun
abbrev pub is_awaited : List ℕ → List Progress → ℕ → ℕ → Bool
is_awaited ranks progress s t =
    not (progress_of progress t).out
    && (nat_lt (slice_index ranks t) (slice_index ranks s) || not (progress_of progress s).begun)

-- what is skipped is out
abbrev pub AreSkips : List Progress → List ℕ → Type 0
AreSkips progress skips = (t u : ℕ) → t ≤ u → u < slice_index skips t → IsOut progress u
