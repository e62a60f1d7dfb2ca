-- The blocks in which items of modules are put in order.
use Rattle.std.specs.Prelude.{◌≡◌, ℕ, Bool, true, false, List, [], ◌∷◌, length, map}
use Rattle.std.specs.List.{AllZip, flat_map}
use Rattle.bundle_order_graph.specs.Modules.{Modules, Requests}
use Rattle.bundle_order_graph.specs.Blocks.{BlocksOf}
use Rattle.bundle_order_graph.specs.Order.{IsOrder}
use Rattle.bundle_order_sort.specs.declared.plan.Block.{Block}
use Rattle.bundle_order_sort.specs.declared.plan.Plan.{Plan}
use Rattle.bundle_order_sort.specs.Merged.{MergedMembers}
use Rattle.bundle_order_sort.specs.Places.{ReachEachOther, left_of, module_numbers_from, numbers_from, places_of}

-- the block of these modules, where these are the modules of all items
pub record IsBlock (owners : List ℕ) (members : MergedMembers) (block : Block) : Type 0 where
  pub places : block.places.items ≡ flat_map (places_of owners) members.0
  pub numbers : block.numbers.items ≡ module_numbers_from 0 (map (places_of owners) members.0)
  pub cycle : block.is_cycle ≡ members.1

-- the block of these modules, which is of one that does not request itself, or else is a cycle
pub record IsPlanned (g : Modules) (owners members : List ℕ) (block : Block) : Type 0 where
  pub places : block.places.items ≡ flat_map (places_of owners) members
  pub numbers : block.numbers.items ≡ module_numbers_from 0 (map (places_of owners) members)
  pub lone : block.is_cycle ≡ false → (m : ℕ) × (members ≡ m ∷ []) × (Requests g m m → ⊥)
  pub cycle : block.is_cycle ≡ true → (m : ℕ) → members ≡ m ∷ [] → Requests g m m

-- the blocks of all modules that the entry reaches, in the order of their last members in its list,
-- where these are the modules of all items; the others are left
pub record IsPlanOf (g : Modules) (entry : ℕ) (owners : List ℕ) (plan : Plan) : Type 0 where
  pub list : List ℕ
  pub is_list : IsOrder g entry list
  pub blocks : List (List ℕ)
  pub are_blocks : BlocksOf (ReachEachOther g) list list blocks
  pub planned : AllZip (IsPlanned g owners) blocks plan.blocks.items
  pub left : plan.left.items ≡ left_of owners list

-- the block of the item at a place alone, which is not sorted
pub record IsOwnBlock (place : ℕ) (block : Block) : Type 0 where
  pub places : block.places.items ≡ place ∷ []
  pub numbers : block.numbers.items ≡ 0 ∷ []
  pub unsorted : block.is_cycle ≡ false

-- so many items, each in a block of its own, in their order; none is left
pub record IsPlanOfEach (count : ℕ) (plan : Plan) : Type 0 where
  pub blocks : AllZip IsOwnBlock (numbers_from 0 count) plan.blocks.items
  pub left : plan.left.items ≡ []

-- the plan of the modules of a list that is asked for: each is in a block of its own where modules
-- stand in the standard's order, and else the blocks are those of modules that reach each other
pub record IsPlanAsked (in_standard_order : Bool) (g : Modules) (entry : ℕ) (list : List ℕ)
    (plan : Plan) : Type 0 where
  pub by_requests : in_standard_order ≡ false → IsPlanOf g entry list plan
  pub of_each : in_standard_order ≡ true → IsPlanOfEach (length list) plan
