-- In which order items may stand that need each other, of modules that have an order of their own.
use Rattle.std.specs.Prelude.{◌≡◌, ◌≢◌, ℕ, ◌+◌, ◌<◌, ◌≤◌, ◌⊎◌, ◌↔◌, nat_eq, nat_lt, Bool, true, false, Option, None, List, length, slice_get, slice_index, slice_index_or, Some, Contains}
use Rattle.std.specs.List.{IsDistinct}
use Rattle.bundle_order_graph.specs.Walks.{Path, IsSettled}
use Rattle.bundle_order_sort.specs.declared.Reference.{Reference}
use Rattle.bundle_order_sort.specs.declared.SharedItem.{SharedItem}
use Rattle.bundle_order_graph.specs.Classes.{Leads}
use Rattle.bundle_order_sort.specs.Numbers.{IsListedBefore}

-- item s is one of this module, and not free
pub record IsItemOf (items : List SharedItem) (s module_number : ℕ) : Type 0 where
  pub item : SharedItem
  pub at : slice_get items s ≡ Some item
  pub bound : item.is_free ≡ false
  pub own : item.which ≡ module_number

-- both items are of one module, and neither is free
pub record ShareModule (items : List SharedItem) (s t : ℕ) : Type 0 where
  pub module_number : ℕ
  pub one : IsItemOf items s module_number
  pub other : IsItemOf items t module_number

-- item s depends on this list, weakly or not
pub record RefersToList (items : List SharedItem) (s : ℕ) (reference : Reference) : Type 0 where
  pub item : SharedItem
  pub at : slice_get items s ≡ Some item
  pub listed : Contains item.references.items reference

-- item t is in a list on which item s depends, weakly or not; a number that is no item's, or its
-- own, is no dependency
pub record NamesShared
    (items : List SharedItem) (lists : List (List ℕ)) (s t : ℕ) (is_weak : Bool) : Type 0 where
  pub list : ℕ
  pub refers : RefersToList items s (record { list = list; is_weak = is_weak })
  pub listed : Leads lists list t
  pub within : t < length items
  pub other : t ≢ s

-- item s depends on item t, weakly or not
abbrev pub DependsShared : List SharedItem → List (List ℕ) → ℕ → ℕ → Type 0
DependsShared items lists s t = (is_weak : Bool) × NamesShared items lists s t is_weak

-- item s needs item t: it depends on it; they are not of one module, or one of them is free; and if
-- the dependency is weak, no path of dependencies leads back
pub record NeedsShared (items : List SharedItem) (lists : List (List ℕ)) (s t : ℕ) : Type 0 where
  pub is_weak : Bool
  pub named : NamesShared items lists s t is_weak
  pub apart : ShareModule items s t → ⊥
  pub strong : is_weak ≡ true → Path (DependsShared items lists) t s → ⊥

-- t is an earlier item of the module of s: they and all between them are of one module, and not
-- free
pub record IsEarlierItem (items : List SharedItem) (s t : ℕ) : Type 0 where
  pub before : t < s
  pub module_number : ℕ
  pub together : (k : ℕ) → t ≤ k → k ≤ s → IsItemOf items k module_number

-- a step leads from an item to one that it needs, or from an item that is not free to an earlier
-- one of its module
pub data SharedStep (items : List SharedItem) (lists : List (List ℕ)) (s t : ℕ) : Type 0 where
  to_need : NeedsShared items lists s t → SharedStep items lists s t
  to_earlier : IsEarlierItem items s t → SharedStep items lists s t

-- the order that is promised: each item once. An item stands before an earlier one of its module
-- only where a path of steps leads from that one back to it. It stands before one that it needs
-- only where a path of dependencies leads from that one back to it, and a path of steps from it to
-- itself. The items below a bound stand as they are numbered, where from none of them a path of
-- steps leads to itself or to a later one of them
pub record IsGoodItemOrder
    (items : List SharedItem) (lists : List (List ℕ)) (order : List ℕ) : Type 0 where
  pub all : (s : ℕ) → (s < length items) ↔ Contains order s
  pub once : IsDistinct nat_eq order
  pub own : (s t : ℕ) → IsEarlierItem items s t → IsListedBefore order s t →
      Path (SharedStep items lists) t s
  pub needed : (s t : ℕ) →
      NeedsShared items lists s t →
      IsListedBefore order s t →
      Path (DependsShared items lists) t s × Path (SharedStep items lists) s s
  pub as_numbered : (bound s t : ℕ) →
      bound ≤ length items →
      IsSettled (SharedStep items lists) bound →
      s < bound →
      t < bound →
      IsListedBefore order s t →
      s < t

-- the items of each module stand together
abbrev pub AreGrouped : List SharedItem → Type 0
AreGrouped items =
    (s t m : ℕ) →
    IsItemOf items s m →
    IsItemOf items t m →
    (k : ℕ) →
    t ≤ k →
    k ≤ s →
    IsItemOf items k m

-- What is computed of items on the way.

-- whether this is one of so many
abbrev pub is_within : ℕ → ℕ → Bool
is_within count t = nat_lt t count

-- whether the list of a reference is one of so many
abbrev pub refers_within : ℕ → Reference → Bool
refers_within count r = nat_lt r.list count

-- the number of a list, counted on behind so many items
abbrev pub number_behind : ℕ → Reference → ℕ
number_behind before r = before + r.list

-- an edge leads from an item to a list on which it depends, where lists are numbered on behind the
-- items, and from a list to each of its items
pub data IsListEdge (items : List SharedItem) (lists : List (List ℕ)) (s t : ℕ) : Type 0 where
  to_list : (r : Reference) →
      RefersToList items s r →
      r.list < length lists →
      t ≡ length items + r.list →
      IsListEdge items lists s t
  to_item : (l : ℕ) →
      s ≡ length items + l →
      Leads lists l t →
      t < length items →
      IsListEdge items lists s t

-- item s stands right after one of its module
pub record FollowsItem (items : List SharedItem) (s : ℕ) : Type 0 where
  pub before : ℕ
  pub next : before + 1 ≡ s
  pub shared : ShareModule items before s

-- item t is of the module that is told, if one is
abbrev pub IsOwn : List SharedItem → Option ℕ → ℕ → Type 0
IsOwn items None t = ⊥
IsOwn items (Some m) t = IsItemOf items t m

-- for each list a module may be told, of which all of its items are
pub record AreSoles
    (items : List SharedItem) (lists : List (List ℕ)) (soles : List (Option ℕ)) : Type 0 where
  pub len : length soles ≡ length lists
  pub each : (l t : ℕ) →
      Leads lists l t →
      (m : ℕ) →
      slice_index_or soles l None ≡ Some m →
      IsItemOf items t m

-- item s needs item t, by the ranks, if it depends on it so
pub record IsNeeded
    (items : List SharedItem) (ranks : List ℕ) (s t : ℕ) (is_weak : Bool) : Type 0 where
  pub within : t < length items
  pub other : t ≢ s
  pub apart : ShareModule items s t → ⊥
  pub strong : is_weak ≡ true → slice_index ranks t < slice_index ranks s

-- item s needs item t, by the ranks
pub record NeedsByRank
    (items : List SharedItem) (lists : List (List ℕ)) (ranks : List ℕ) (s t : ℕ) : Type 0 where
  pub reference : Reference
  pub refers : RefersToList items s reference
  pub listed : Leads lists reference.list t
  pub needed : IsNeeded items ranks s t reference.is_weak

-- of these numbers those that are needed are added
abbrev pub AddsNeeds : (ℕ → Type 0) → List ℕ → List ℕ → List ℕ → Type 0
AddsNeeds Needed list old new =
    (t : ℕ) → Contains new t ↔ (Contains old t ⊎ (Contains list t × Needed t))
