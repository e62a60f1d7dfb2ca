-- The modules of a bundle as one: the items that it is made of.
use Rattle.std.specs.Prelude.{◌≡◌, ◌<◌, ◌≤◌, ℕ, nat_eq, Bool, List, ◌++◌, Option, Some, Contains, slice_get}
use Rattle.std.specs.List.{IsDistinct}
use Rattle.bundle_tree_ast.specs.declared.module.Module.{Module}
use Rattle.bundle_syntax.specs.Item.{Item}
use Rattle.bundle_order_sort.specs.declared.plan.Block.{Block}
use Rattle.bundle_rules.specs.Program.{Program}
use Rattle.bundle_merge_theory.specs.made.Given.{HookAnswer, BundleContexts, Holder, TopOf}
use Rattle.bundle_merge_theory.specs.made.Made.{AreMade, IsBlockMade}
use Rattle.bundle_merge_theory.specs.made.Alone.{IsHolder, TellApart}
use Rattle.bundle_merge_theory.specs.planned.Blocks.{block_of}
use Rattle.bundle_merge_theory.specs.planned.Decided.{Decided}
use Rattle.bundle_merge_names.specs.Bundle.{GetsContext}
use Rattle.bundle_merge_names.specs.Numbers.{position}
use Rattle.bundle_merge_names.specs.declared.part.BundleInput.{BundleInput}
use Rattle.bundle_merge_names.specs.declared.part.BundleModule.{BundleModule}
use Rattle.bundle_merge_items.specs.Added.{module_item_lists}
use Rattle.bundle_merge_items.specs.Adds.{any_hooks, decided_of}
use Rattle.bundle_merge_items.specs.declared.merge.MergedModule.{MergedModule}

-- no module stands twice in one of the blocks of a bundle
abbrev pub AreBlocksOnce : BundleInput → Type 0
AreBlocksOnce bundle =
    (block : Block) → Contains bundle.blocks.now block → IsDistinct nat_eq block.places.items

-- the items of a block are added behind those that are there, in some order that is good
pub record AddsBlock (q : Program) (list : List ℕ) (answers : ℕ → Option HookAnswer)
    (context : BundleContexts) (d : Decided) (block : Block) (old new : Module) : Type 0 where
  pub order : List ℕ
  pub placed : List (List Item)
  pub made : IsBlockMade q any_hooks list context answers d (block_of block) order placed
  pub is : module_item_lists new ≡ module_item_lists old ++ placed

-- what is merged is what the modules of a bundle make, where contexts tell apart what has one, each
-- module keeps that of its top, what gets one has it from the first free one on, and the next free
-- one is above all
pub record IsMergedOf (q : Program) (list : List ℕ) (answers : ℕ → Option HookAnswer)
    (bundle : BundleInput) (meta : ℕ → Bool) (count : ℕ → ℕ) (merged : MergedModule) : Type 0 where
  pub context : BundleContexts
  pub apart : TellApart q answers context
  pub tops : (m : ℕ) (part : BundleModule) →
      slice_get bundle.parts.now m ≡ Some part →
      context (TopOf m) ≡ part.local
  pub below : (a : Holder) → IsHolder q answers a → context a < position merged.contexts
  pub from : (a : Holder) →
      IsHolder q answers a →
      GetsContext answers a →
      position bundle.contexts ≤ context a
  pub orders : List (List ℕ)
  pub items : List (List Item)
  pub made : AreMade q any_hooks list context answers (decided_of bundle meta count) orders items
  pub is : module_item_lists merged.tree ≡ items
