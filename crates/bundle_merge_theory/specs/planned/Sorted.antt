-- The order of all items, told by the blocks that are sorted alone: where each begins, how many
-- items it has, and its order.
use Rattle.std.specs.Prelude.{◌≡◌, ◌↔◌, ℕ, ◌+◌, ◌<◌, nat_eq, slice_get, true, Some, Contains, List, [], ◌∷◌, length, map}
use Rattle.std.specs.List.{IsDistinct}
use Rattle.bundle_syntax.specs.Item.{Item}
use Rattle.bundle_rules.specs.Scopes.{Scope}
use Rattle.bundle_rules.specs.Declarations.{Reading}
use Rattle.bundle_rules.specs.Statements.{TopItem}
use Rattle.bundle_rules.specs.Order.{IsGoodOrder, group_of}
use Rattle.bundle_rules.specs.Bundle.{Cause, owner_of}
use Rattle.bundle_merge_theory.specs.planned.Decided.{Decided, DecidedBlock, block_plan}

-- Items of a block, wherever they stand.

-- an item of a bundle has the content of the merged item with this number
abbrev pub IsItem : List (List Item) → ℕ → TopItem → Type 0
IsItem merged n top = slice_get merged n ≡ Some top.items

-- items of a bundle that have, in turn, the contents of so many merged items from one on
pub record AreMergedItems (body : List TopItem) (merged : List (List Item)) (first count : ℕ)
    (items : List TopItem) : Type 0 where
  pub long : length items ≡ count
  pub same : (n : ℕ) (top : TopItem) → slice_get items n ≡ Some top → IsItem merged (first + n) top
  pub there : (n : ℕ) (top : TopItem) → slice_get items n ≡ Some top → Contains body top

-- each number below the count stands once
pub record IsWholeOrder (count : ℕ) (order : List ℕ) : Type 0 where
  pub all : (n : ℕ) → (n < count) ↔ Contains order n
  pub once : IsDistinct nat_eq order

-- the order of a block that is sorted is whole, and is good for its items wherever they stand in
-- the bundle
pub record IsBlockGood (reading : Reading) (tree : List Item) (top : Scope) (body : List TopItem)
    (merged : List (List Item)) (first : ℕ) (causes : List Cause) (order : List ℕ) : Type 0 where
  pub whole : IsWholeOrder (length causes) order
  pub good : (items : List TopItem) →
      AreMergedItems body merged first (length causes) items →
      IsGoodOrder (group_of reading top tree items (map owner_of causes)) order

-- the same of each block that is sorted, where the first merged item of the first block is this
abbrev pub AreBlocksGood : Reading → List Item → Scope → List TopItem → List (List Item) → Decided →
    ℕ → List DecidedBlock → List (List ℕ) → Type 0
AreBlocksGood reading tree top body merged d first [] [] = Unit {0}
AreBlocksGood reading tree top body merged d first [] (order ∷ orders) = ⊥
AreBlocksGood reading tree top body merged d first (block ∷ blocks) [] = ⊥
AreBlocksGood reading tree top body merged d first (block ∷ blocks) (order ∷ orders) =
    (block.is_sorted ≡ true → IsBlockGood reading tree top body merged first
    (block_plan d block.modules) order)
    × AreBlocksGood reading tree top body merged d (first + length (block_plan d block.modules))
    blocks orders
