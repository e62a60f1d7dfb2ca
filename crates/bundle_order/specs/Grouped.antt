-- Items of modules in one list, as they are to be put in order.
use Rattle.std.specs.Prelude.{◌≡◌, ℕ, ◌<◌, ◌≤◌, ◌&&◌, nat_le, nat_lt, List, ◌∷◌, ◌++◌, Option, Some, None, map, slice_get, if◌then◌else◌}
use Rattle.std.specs.declared.ops.Range.{Range}
use Rattle.bundle_syntax.specs.Item as h
use Rattle.bundle_syntax.specs.Item.{Item, item_of}
use Rattle.bundle_rules.specs.Declarations.{ByContext}
use Rattle.bundle_rules.specs.Scopes.{Top}
use Rattle.bundle_rules.specs.Order as o
use Rattle.bundle_rules.specs.Order.{group_of}
use Rattle.bundle_rules.specs.Parts.{tree_of_items}
use Rattle.bundle_rules.specs.Sorting.{flat}
use Rattle.bundle_rules.specs.Statements.{placed}
use Rattle.bundle_order.specs.Cut.{cut_items}
use Rattle.bundle_order.specs.Owners.{range_module}
use Rattle.bundle_order.specs.declared.group.Group.{Group}

-- the list of a module that is still open, with these items
abbrev pub begun : List (List Item) → List Item
begun lists = h.Open 0 h.Module ∷ flat lists

-- a group holds items with these lists, one after another, each of the module that is told or free
pub record IsGroup
    (group : Group) (lists : List (List Item)) (owners : List (Option ℕ)) : Type 0 where
  pub list : map item_of group.list.items ≡ begun lists
  pub cut : (rest : List Item) → cut_items (begun lists ++ rest) group.ranges.items ≡ placed 1 lists
  pub owned : map range_module group.ranges.items ≡ owners

-- the group of these items in the words of the definitions, each item where it stands
abbrev pub group_placed : List (List Item) → List (Option ℕ) → o.Group
group_placed lists owners =
    group_of ByContext Top (tree_of_items (flat lists)) (placed 1 lists) owners

-- a range of the code, as its two ends
abbrev pub ends_of : Range ℕ → ℕ × ℕ
ends_of range = (range.start, range.end)

-- the ranges ascend and do not overlap
abbrev pub AreAscending : List (ℕ × ℕ) → Type 0
AreAscending ranges =
    (i j : ℕ) (a b : ℕ × ℕ) →
    i < j →
    slice_get ranges i ≡ Some a →
    slice_get ranges j ≡ Some b →
    a.1 ≤ b.0

-- the ranges before this one end at a number or before it
abbrev pub ArePast : List (ℕ × ℕ) → ℕ → ℕ → Type 0
ArePast ranges k n = (i : ℕ) (a : ℕ × ℕ) → i < k → slice_get ranges i ≡ Some a → a.1 ≤ n

-- the number of a range, if this number lies in it
abbrev pub owner_at : ℕ → ℕ → Option (ℕ × ℕ) → Option ℕ
owner_at n k None = None
owner_at n k (Some range) = if nat_le range.0 n && nat_lt n range.1 then Some k else None
