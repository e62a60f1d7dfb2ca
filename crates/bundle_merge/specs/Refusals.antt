-- Why modules are not merged.
use Rattle.std.specs.Prelude.{◌≡◌, ◌⊎◌, ⊤, ℕ, List, Some, Contains, slice_get}
use Rattle.bundle_syntax.specs.Item.{Item}
use Rattle.bundle_tree_ast.specs.declared.module.Module.{Module}
use Rattle.bundle_tree_names.specs.FileName.{Name, name_of}
use Rattle.bundle_tree_names.specs.declared.error.Error.{Error}
use Rattle.bundle_tree_names.specs.declared.error.Error.TheVariants.{OutOfMemory}
use Rattle.bundle_rules.specs.Bundle.{Hooks}
use Rattle.bundle_rules.specs.Faults.{NeedsTooManyContexts}
use Rattle.bundle_rules.specs.Parts.{Owned, items_in}
use Rattle.bundle_rules.specs.Program.{Program}
use Rattle.bundle_link.specs.declared.link.Linker.{Linker}
use Rattle.bundle_link.specs.declared.transformed.TransformedModule.{TransformedModule}
use Rattle.bundle_link.specs.Refusals.{IsTreeRefusal}
use Rattle.bundle_scope.specs.Refusals.{IsUsedUp}
use Rattle.bundle_merge_names.specs.Numbers.{position}
use Rattle.bundle_merge_names.specs.declared.context.FreshContexts as numbers
use Rattle.bundle_merge_names.specs.declared.error.MergeError.{MergeError}
use Rattle.bundle_merge_names.specs.declared.error.MergeError.TheVariants as e
use Rattle.bundle_merge_items.specs.Added.{module_item_lists}
use Rattle.bundle_merge.specs.Read.{IsModuleKnown, own_list}

-- memory ran out, or contexts of this file do not suffice
abbrev pub IsLack : Name → Error → Type 0
IsLack file error = (error ≡ OutOfMemory) ⊎ IsUsedUp file error

-- memory ran out; or contexts of this file do not suffice, as the next number and the scopes and
-- bindings of a program's trees and of what is added to them, counted together, are above the last
-- context
abbrev pub MayLack : Program → Hooks → Name → ℕ → Error → Type 0
MayLack p hooks file next error =
    (error ≡ OutOfMemory) ⊎ (IsUsedUp file error × NeedsTooManyContexts p hooks next)

-- the same, where it is not told yet of which file
abbrev pub MayLackNames : Program → Hooks → ℕ → MergeError → Type 0
MayLackNames p hooks next e.OutOfMemory = ⊤
MayLackNames p hooks next (e.ContextsUsedUp its) = NeedsTooManyContexts p hooks next

-- memory ran out, or contexts of this file do not suffice, as all are used up and none is the next
-- one
abbrev pub IsLackAfter : Name → numbers.FreshContexts → Error → Type 0
IsLackAfter file contexts error =
    (error ≡ OutOfMemory) ⊎ (IsUsedUp file error × (position contexts ≡ 4294967296))

-- memory ran out, or the first fault is told that a tree has by itself, in the file of one of these
-- modules
abbrev pub IsMergeRefusal : List TransformedModule → Error → Type 0
IsMergeRefusal modules error =
    (error ≡ OutOfMemory)
    ⊎ ((m : TransformedModule) × (tree : List Item) × Contains modules m
    × IsTreeRefusal (name_of m.file_name) tree error)

-- either of these
abbrev pub MayRefuseMerge : Name → List TransformedModule → Error → Type 0
MayRefuseMerge file modules error = IsLack file error ⊎ IsMergeRefusal modules error

-- of the modules on a list these items are read: the first fault is told that the own items of one
-- of them have
pub record HasOwnFault (linker : Linker) (list : List ℕ) (copies : List Module) (error : Error) :
    Type 0 where
  pub place : ℕ
  pub number : ℕ
  pub items : Module
  pub known : TransformedModule
  pub at : slice_get list place ≡ Some number
  pub there : slice_get copies place ≡ Some items
  pub is_known : IsModuleKnown linker number known
  pub told : IsTreeRefusal (name_of known.file_name) (own_list items.body.items) error

-- of a module on the linker's list the first fault is told, in its file, that its own items have
-- among those that are prepared of it
pub record HasPreparedFault (linker : Linker) (prepared : List Owned) (error : Error) : Type 0 where
  pub number : ℕ
  pub known : TransformedModule
  pub is_known : IsModuleKnown linker number known
  pub items : Module
  pub are : module_item_lists items ≡ items_in prepared number
  pub told : IsTreeRefusal (name_of known.file_name) (own_list items.body.items) error

-- memory ran out, or that is told
abbrev pub IsRefusalOfRead : Linker → List ℕ → List Module → Error → Type 0
IsRefusalOfRead linker list copies error =
    (error ≡ OutOfMemory) ⊎ HasOwnFault linker list copies error
