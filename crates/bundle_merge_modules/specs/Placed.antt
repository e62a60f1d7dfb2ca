-- Items in the order in which they are to stand, told by their places.
use Rattle.std.specs.Prelude.{◌≡◌, ℕ, ◌<◌, ◌↔◌, Bool, true, false, not, List, [], ◌∷◌, ◌++◌, All, length, map, filter, slice_index, slice_index_or}
use Rattle.std.specs.List.{flat_map}
use Rattle.std.specs.Borrow.{Bor}
use Rattle.bundle_tree_ast.specs.declared.module.ModuleItem.{ModuleItem}
use Rattle.bundle_syntax.specs.Item.{Item}
use Rattle.bundle_tree_listed.specs.Tree.{module_item_items}
use Rattle.bundle_order_sort.specs.Arranged.{IsArrangement}
use Rattle.bundle_order_sort.specs.declared.plan.Block.{Block}
use Rattle.bundle_order_graph.specs.Modules.{Modules, Requests}
use Rattle.bundle_order_graph.specs.Walks.{Reaches}
use Rattle.bundle_order.specs.Numbering.{IsOwnOrder, IsSortedBy, owners_of}
use Rattle.bundle_rules.specs.Parts.{Owned}
use Rattle.bundle_rules.specs.Sorting.{IsSorted, IsSortedFrom, numbered_items}

-- items that are lent, as trees
abbrev pub trees_lent : List (Bor ModuleItem) → List (List Item)
trees_lent items = map (λ item. module_item_items 0 item.now) items

-- the tree at a place
abbrev pub tree_at : List (List Item) → ℕ → List Item
tree_at trees place = slice_index_or trees place []

-- the places of a block are of so many items, and each has a number
pub record IsFitting (count : ℕ) (block : Block) : Type 0 where
  pub within : All (λ place. place < count) block.places.items
  pub long : length block.numbers.items ≡ length block.places.items

-- the order of the items of modules, which are a cycle or one module alone
pub record IsOrdered
    (is_cycle : Bool) (modules : List (List (List Item))) (trees : List (List Item))
    (order : List ℕ) : Type 0 where
  pub whole : IsArrangement order (length trees)
  pub lone : is_cycle ≡ false → IsOwnOrder trees order
  pub cycle : is_cycle ≡ true → IsSortedBy modules trees order

-- the places of a block of these modules, in the order in which its items are to stand
pub record IsBlockOrder
    (trees : List (List Item)) (block : Block) (modules : List (List (List Item)))
    (order : List ℕ) : Type 0 where
  pub numbers : List ℕ
  pub whole : IsArrangement numbers (length block.places.items)
  pub picked : order ≡ map (λ n. slice_index block.places.items n) numbers
  pub lone : block.is_cycle ≡ false →
      map (tree_at trees) order
      ≡ map (λ one. one.0) (numbered_items (map (tree_at trees) block.places.items ∷ []))
  pub cycle : block.is_cycle ≡ true → IsSorted modules (map (tree_at trees) order)

-- the same, whatever modules its items are of
abbrev pub IsAnyBlockPut : List (List Item) → Block → List ℕ → Type 0
IsAnyBlockPut trees block order =
    (modules : List (List (List Item))) →
    map (tree_at trees) block.places.items ≡ flat_map (λ items. items) modules →
    block.numbers.items ≡ owners_of 0 modules →
    IsBlockOrder trees block modules order

-- the places of all items, sorted from an entry on, with those behind that it does not reach
pub record IsNewOrder (g : Modules) (entry : ℕ) (pairs : List Owned) (order : List ℕ) : Type 0 where
  pub long : length order ≡ length pairs
  pub whole : IsArrangement order (length pairs)
  pub is_reached : ℕ → Bool
  pub reached : (m : ℕ) → (is_reached m ≡ true) ↔ Reaches (Requests g) entry m
  pub sorted : List (List Item)
  pub reads :
      map (tree_at (map (λ pair. pair.1) pairs)) order
      ≡ sorted ++ map (λ pair. pair.1) (filter (λ pair. not (is_reached pair.0)) pairs)
  pub sorts : IsSortedFrom g entry pairs sorted
