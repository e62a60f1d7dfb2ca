-- When a bundle whose modules are merged is that of a program, and what is added is made for
-- causes.
use Rattle.std.specs.Prelude.{◌≡◌, ℕ, zero, ◌&&◌, not, true, Bool, List, ◌++◌, ◌∷◌, [], Option, Some, None, length, map, slice_get, unwrap_or, ⊤}
use Rattle.std.specs.List.{AllZip}
use Rattle.bundle_tree_ast.specs.declared.module.Module.{Module}
use Rattle.bundle_syntax.specs.declared.kind.ExportMetadata.{ExportMetadata}
use Rattle.bundle_syntax.specs.Item.{Item}
use Rattle.bundle_rules.specs.Bundle.{Cause, HoldsMeta, Loads, Own, Hooks, MayHold, AreFaultless}
use Rattle.bundle_rules.specs.Entries.{has_import_meta}
use Rattle.bundle_rules.specs.Merged.{IsMetaItem, meta_item}
use Rattle.bundle_rules.specs.Program.{Program, tree_of, IsReached}
use Rattle.bundle_scope_names.specs.fit.Sorts.{AProperty, Many, slot}
use Rattle.bundle_scope_names.specs.fit.Fits.{AreFit}
use Rattle.bundle_merge_theory.specs.made.Given.{HookAnswer, Fresh, Written, stands_written, BundleContexts}
use Rattle.bundle_merge_theory.specs.made.Made.{IsMade}
use Rattle.bundle_merge_theory.specs.made.Alone.{AreTreesSound}
use Rattle.bundle_merge_theory.specs.planned.Decided.{Decided, numbers_from, one_if}
use Rattle.bundle_merge_theory.specs.sound.Decided.{AreTablesTold, decided_by}
use Rattle.bundle_merge_theory.specs.planned.Blocks.{block_of}
use Rattle.bundle_merge_names.specs.Bundle.{AreBundleParts, AreNamesOf}
use Rattle.bundle_merge_names.specs.declared.names.BundleNames.{BundleNames}
use Rattle.bundle_merge_names.specs.declared.part.Answered.{Answered}
use Rattle.bundle_merge_names.specs.declared.part.BundleInput.{BundleInput}
use Rattle.bundle_merge_items.specs.Added.{module_item_lists}

-- a hook that may answer anything: which hook was asked is not known here
abbrev pub any_hooks : Hooks
any_hooks = record { may_answer = λ file is_entry properties. ⊤ }

-- what was answered for modules is there for just those that have an `import.meta`; it is a list of
-- properties, and has no fault; or it is the object that is written already
pub record AreAnswered (q : Program) (answers : ℕ → Option HookAnswer) : Type 0 where
  pub there : (m : ℕ) → IsReached q m → has_import_meta (tree_of q m) ≡ true →
      (answer : HookAnswer) × (answers m ≡ Some answer)
  pub asked : (m : ℕ) (answer : HookAnswer) → answers m ≡ Some answer →
      has_import_meta (tree_of q m) ≡ true
  pub held : (m : ℕ) (properties : List Item) → answers m ≡ Some (Fresh properties) →
      MayHold q any_hooks m properties
  pub faultless : (m : ℕ) (properties : List Item) → answers m ≡ Some (Fresh properties) →
      AreFaultless q properties
  pub fit : (m : ℕ) (properties : List Item) → answers m ≡ Some (Fresh properties) →
      AreFit (slot 0 Many AProperty ∷ []) properties
  pub written : (m ctxt : ℕ) (notes : ExportMetadata) (properties : List Item) →
      answers m ≡ Some (Written ctxt notes properties) →
      IsMetaItem q any_hooks m (meta_item notes ctxt properties)
  pub written_fit : (m ctxt : ℕ) (notes : ExportMetadata) (properties : List Item) →
      answers m ≡ Some (Written ctxt notes properties) →
      AreFit (slot 0 Many AProperty ∷ []) properties

-- a bundle is that of a program whose modules are numbered by their places, and has these names
pub record IsNamedBundle (q : Program) (list : List ℕ) (answers : ℕ → Option HookAnswer)
    (context : BundleContexts) (bundle : BundleInput) (names : BundleNames) : Type 0 where
  pub sound : AreTreesSound q list
  pub parts : AreBundleParts q list answers bundle
  pub answered : AreAnswered q answers
  pub named : AreNamesOf q list answers context bundle names

-- what linking, the tables and the plan decide of its modules
abbrev pub decided_of : BundleInput → (ℕ → Bool) → (ℕ → ℕ) → Decided
decided_of bundle meta count =
    decided_by bundle.linking.now meta count (length bundle.parts.now)
    (map block_of bundle.blocks.now)

-- an ES module makes the object for its `import.meta`, if none is written already
abbrev pub meta_plan : Program → (ℕ → Option HookAnswer) → ℕ → List Cause
meta_plan q answers m =
    one_if (has_import_meta (tree_of q m) && not (stands_written (answers m))) (HoldsMeta m)

-- and what stands behind that
abbrev pub behind_plan : Decided → ℕ → List Cause
behind_plan d m =
    map (λ load. Loads m load.which) (d.loads m)
    ++ map (Own m) (numbers_from zero (d.statements m))

-- items are added behind those that are there, each made for one of these causes in turn
pub record AddsItems (q : Program) (list : List ℕ) (answers : ℕ → Option HookAnswer)
    (context : BundleContexts) (causes : List Cause) (old new : Module) : Type 0 where
  pub made : List (List Item)
  pub each : AllZip (IsMade q any_hooks list context answers) causes made
  pub is : module_item_lists new ≡ module_item_lists old ++ made

-- the same for each program whose bundle this is, where such causes are its
abbrev pub AddsFor :
    BundleInput → BundleNames → (Program → List Cause → Type 0) → Module → Module → Type 0
AddsFor bundle names Are old new =
    (q : Program) (list : List ℕ) (answers : ℕ → Option HookAnswer) (context : BundleContexts)
    (causes : List Cause) → IsNamedBundle q list answers context bundle names → Are q causes →
    AddsItems q list answers context causes old new

-- the causes are what a plan makes of what is decided of the modules, as their tables have it
abbrev pub ArePlannedCauses : BundleInput → (Decided → List Cause) → Program → List Cause → Type 0
ArePlannedCauses bundle plan q causes =
    (meta : ℕ → Bool) × (count : ℕ → ℕ) × AreTablesTold q (length bundle.parts.now) meta count
    × (causes ≡ plan (decided_of bundle meta count))

-- the object that holds the `import.meta` of module m is added, in each bundle that has this answer
-- for it
abbrev pub AddsMeta : BundleNames → ℕ → Answered → Module → Module → Type 0
AddsMeta names m answer old new =
    (q : Program) (list : List ℕ) (answers : ℕ → Option HookAnswer) (context : BundleContexts)
    (bundle : BundleInput) → IsNamedBundle q list answers context bundle names → IsReached q m →
    unwrap_or (slice_get bundle.answers.now m) None ≡ Some answer →
    AddsItems q list answers context (HoldsMeta m ∷ []) old new
