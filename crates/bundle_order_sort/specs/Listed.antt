-- What items depend on, where each dependency is listed.
use Rattle.std.specs.Prelude.{◌≡◌, ◌≢◌, ℕ, ◌<◌, Bool, List, length, slice_get, Some, Contains}
use Rattle.bundle_order_sort.specs.declared.SortItem.{SortItem}

-- item s names item t as what it depends on, weakly or not; a number that is no item's, or its own,
-- is no dependency
pub record NamesListed (items : List SortItem) (s t : ℕ) (is_weak : Bool) : Type 0 where
  pub item : SortItem
  pub at : slice_get items s ≡ Some item
  pub listed : Contains item.dependencies.items (record { item = t; is_weak = is_weak })
  pub within : t < length items
  pub other : t ≢ s

-- item s depends on item t, weakly or not
abbrev pub DependsListed : List SortItem → ℕ → ℕ → Type 0
DependsListed items s t = (is_weak : Bool) × NamesListed items s t is_weak
