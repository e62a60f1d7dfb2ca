-- What is added to the items of a block, and beside each the module that it is of.
use Rattle.std.specs.Prelude.{◌≡◌, ℕ, ◌<◌, Bool, true, false, List, ◌++◌, Option, Contains, filter_map, length, map, slice_get}
use Rattle.std.specs.List.{AllZip}
use Rattle.bundle_syntax.specs.Item.{Item}
use Rattle.bundle_rules.specs.Bundle.{Cause, owner_of}
use Rattle.bundle_rules.specs.Order.{IsGoodOrder}
use Rattle.bundle_rules.specs.Program.{Program}
use Rattle.bundle_rules.specs.Sorting.{flat, group_of_items}
use Rattle.bundle_merge_items.specs.Added.{module_item_lists}
use Rattle.bundle_merge_items.specs.Adds.{AddsItems, IsNamedBundle, any_hooks, decided_of}
use Rattle.bundle_merge_names.specs.declared.names.BundleNames.{BundleNames}
use Rattle.bundle_merge_names.specs.declared.part.BundleInput.{BundleInput}
use Rattle.bundle_merge_theory.specs.made.Given.{HookAnswer, BundleContexts}
use Rattle.bundle_merge_theory.specs.made.Made.{AreBlocksMade, AreMade, IsBlockMade, IsMade}
use Rattle.bundle_merge_theory.specs.planned.Blocks.{block_of}
use Rattle.bundle_merge_theory.specs.planned.Decided.{Decided}
use Rattle.bundle_merge_theory.specs.sound.Decided.{AreTablesTold}
use Rattle.bundle_order_sort.specs.declared.plan.Block.{Block}
use Rattle.bundle_tree_ast.specs.declared.module.Module.{Module}

-- it holds of each program whose bundle this is, with what its tables tell
abbrev pub InBundle : BundleInput → BundleNames →
    (Program → List ℕ → (ℕ → Option HookAnswer) → BundleContexts → Decided → Type 0) → Type 0
InBundle bundle names Holds =
    (q : Program) (list : List ℕ) (answers : ℕ → Option HookAnswer) (context : BundleContexts)
    (meta : ℕ → Bool) (count : ℕ → ℕ) →
    IsNamedBundle q list answers context bundle names →
    AreTablesTold q (length bundle.parts.now) meta count →
    Holds q list answers context (decided_of bundle meta count)

-- what a plan has of what is decided is added
abbrev pub AddsPlan : BundleInput → BundleNames → (Decided → List Cause) → Module → Module → Type 0
AddsPlan bundle names plan old new =
    InBundle bundle names
    (λ q list answers context d. AddsItems q list answers context (plan d) old new)

-- these are numbers of modules of a bundle
abbrev pub AreBundleModules : BundleInput → List ℕ → Type 0
AreBundleModules bundle places = (m : ℕ) → Contains places m → m < length bundle.parts.now

-- items are made for these causes in turn, and beside each stands the module that it is of
pub record AreOwned (q : Program) (list : List ℕ) (answers : ℕ → Option HookAnswer)
    (context : BundleContexts) (causes : List Cause) (items : Module) (owners : List (Option ℕ)) :
    Type 0 where
  pub each : AllZip (IsMade q any_hooks list context answers) causes (module_item_lists items)
  pub owned : owners ≡ map owner_of causes

-- behind such items come those that a plan has, with the modules that they are of
abbrev pub AddsOwned : BundleInput → BundleNames → (Decided → List Cause) → Module → Module →
    List (Option ℕ) → List (Option ℕ) → Type 0
AddsOwned bundle names plan old new before after =
    InBundle bundle names (λ q list answers context d. (causes : List Cause) →
    AreOwned q list answers context causes old before →
    AreOwned q list answers context (causes ++ plan d) new after)

-- items stand in an order that is good for them, as they are of these modules, or as they stood
-- where they are not to be sorted
pub record IsBlockPlaced (is_sorted : Bool) (before : List (List Item)) (owners : List (Option ℕ))
    (placed : List (List Item)) : Type 0 where
  pub order : List ℕ
  pub good : is_sorted ≡ true → IsGoodOrder (group_of_items (flat before) owners) order
  pub sorted : is_sorted ≡ true → placed ≡ filter_map (slice_get before) order
  pub unsorted : is_sorted ≡ false → placed ≡ before

-- these are the items of a block, in some order that is good
pub record IsBlockPut (q : Program) (list : List ℕ) (answers : ℕ → Option HookAnswer)
    (context : BundleContexts) (d : Decided) (block : Block) (items : Module) : Type 0 where
  pub order : List ℕ
  pub made :
      IsBlockMade q any_hooks list context answers d (block_of block) order
      (module_item_lists items)

-- the items of blocks are added behind those that are there
pub record AddsBlocks (q : Program) (list : List ℕ) (answers : ℕ → Option HookAnswer)
    (context : BundleContexts) (d : Decided) (blocks : List Block) (old new : Module) : Type 0 where
  pub orders : List (List ℕ)
  pub placed : List (List Item)
  pub made : AreBlocksMade q any_hooks list context answers d (map block_of blocks) orders placed
  pub is : module_item_lists new ≡ module_item_lists old ++ placed

-- the items of a bundle in their order
pub record AreItemsMade (q : Program) (list : List ℕ) (answers : ℕ → Option HookAnswer)
    (context : BundleContexts) (d : Decided) (items : Module) : Type 0 where
  pub orders : List (List ℕ)
  pub made : AreMade q any_hooks list context answers d orders (module_item_lists items)
