-- What was read of a module, as it is handed on to be linked and to be merged.
use Rattle.std.specs.Prelude.{◌≡◌, ◌≢◌, ◌⊎◌, ◌-◌, ◌<◌, ℕ, false, List, [], Option, Some, None, length, slice_get}
use Rattle.std.specs.List.{AllZip}
use Rattle.bundle_syntax.specs.declared.kind.ExportMetadata.{ExportMetadata}
use Rattle.bundle_syntax.specs.Item.{Item}
use Rattle.bundle_order_graph.specs.Modules.{deps}
use Rattle.bundle_order_sort.specs.declared.plan.Block.{Block}
use Rattle.bundle_rules.specs.Bundle.{Hooks, properties_tree}
use Rattle.bundle_rules.specs.Declarations.{ByContext, Name}
use Rattle.bundle_rules.specs.Denotes.{Bound, denoted_as}
use Rattle.bundle_rules.specs.Places.{Occurrence, occurrences}
use Rattle.bundle_rules.specs.Program.{Program, requested, IsReached}
use Rattle.bundle_rules.specs.Scopes.{Es, Inner, ScopeKind}
use Rattle.bundle_link_index.specs.Programs.{IsLinkProgram}
use Rattle.bundle_link.specs.Judged.{numbers_below}
use Rattle.bundle_link_targets.specs.Linked.{HandsOver, IsLinkingOf}
use Rattle.bundle_link_targets.specs.declared.linking.Linking.{Linking}
use Rattle.bundle_merge_theory.specs.made.Given.{HookAnswer, Written}
use Rattle.bundle_merge_names.specs.Numbers.{position}
use Rattle.bundle_merge_names.specs.declared.error.MergeError.{MergeError}
use Rattle.bundle_merge_names.specs.declared.error.MergeError.TheVariants.{OutOfMemory}
use Rattle.bundle_merge_names.specs.declared.part.BundleInput.{BundleInput}
use Rattle.bundle_merge.specs.Placed.{AreModulesRight, HasFront, IsModuleRead}
use Rattle.bundle_tree_ast.specs.declared.module.Module.{Module}
use Rattle.bundle_link_index.specs.declared.target.LinkModule.{LinkModule}
use Rattle.bundle_link.specs.Refusals.{Links}
use Rattle.bundle_link.specs.Held.{config_of, entry_of, graph_of, list_of}
use Rattle.bundle_link.specs.declared.link.Linker.{Linker}
use Rattle.bundle_merge_names.specs.declared.part.BundleModule.{BundleModule}
use Rattle.bundle_merge_items.specs.declared.merge.MergedModule.{MergedModule}
use Rattle.bundle_merge.specs.Read.{IsReadAt}
use Rattle.bundle_merge.specs.Ready.{IsMergedAs, IsRefusedAs, TakesAs}
use Rattle.bundle_merge.specs.declared.read.ReadModule.{ReadModule}

-- what was read is handed on, as a module that is linked
pub record IsLinkRead (read : ReadModule) (its : LinkModule) : Type 0 where
  pub tables : its.tables.now ≡ read.tables
  pub leads : its.leads.now ≡ read.leads

-- and as one that is merged
pub record IsPartRead (read : ReadModule) (part : BundleModule) : Type 0 where
  pub items : part.items.now ≡ read.items.now
  pub denotations : part.denotations.now ≡ read.names
  pub tables : part.tables.now ≡ read.tables
  pub leads : part.leads.now ≡ read.leads
  pub local : part.local ≡ read.local
  pub written : part.written ≡ read.written

-- what was read of the modules on the linker's list from these items, in turn
pub record AreReadFrom (linker : Linker) (ids : List ℕ) (list : List ℕ) (copies : List Module)
    (n : ℕ) (reads : List ReadModule) : Type 0 where
  pub long : length reads ≡ n
  pub each : (k m : ℕ) (its : Module) (read : ReadModule) (part : BundleModule) →
      slice_get list k ≡ Some m →
      slice_get copies k ≡ Some its →
      slice_get reads k ≡ Some read →
      IsPartRead read part →
      IsReadAt linker ids m its part

-- a context stands inside the object of an `import.meta` that is written already for the module at
-- a place: a binding inside has it
pub record StandsInside (answers : ℕ → Option HookAnswer) (k ctxt : ℕ) : Type 0 where
  pub own : ℕ
  pub notes : ExportMetadata
  pub properties : List Item
  pub told : answers k ≡ Some (Written own notes properties)
  pub kind : ScopeKind
  pub begins : ℕ
  pub name : Name
  pub i : ℕ
  pub o : Occurrence
  pub there : slice_get (occurrences (properties_tree properties)) i ≡ Some o
  pub denoted :
      denoted_as ByContext Es (properties_tree properties) i ≡ Some (Bound (Inner kind begins) name)
  pub is : o.ctxt ≡ ctxt

-- or in it: the object's name has it, or such a binding
pub data StandsInObject (answers : ℕ → Option HookAnswer) (k ctxt : ℕ) : Type 0 where
  its_name : (notes : ExportMetadata) (properties : List Item) →
      answers k ≡ Some (Written ctxt notes properties) →
      StandsInObject answers k ctxt
  its_inside : StandsInside answers k ctxt → StandsInObject answers k ctxt

-- the contexts of such objects are above that of globals and below the next one, and none is that
-- of a module's top; no two objects have one in common, and no binding inside one has that of its
-- name
pub record AreObjectsApart (list : List ℕ) (local : ℕ → ℕ) (next : ℕ)
    (answers : ℕ → Option HookAnswer) : Type 0 where
  pub own : (k ctxt : ℕ) → StandsInObject answers k ctxt → 1 < ctxt
  pub free : (k ctxt : ℕ) → StandsInObject answers k ctxt → ctxt < next
  pub tops : (k n m ctxt : ℕ) → StandsInObject answers k ctxt → slice_get list n ≡ Some m →
      ctxt ≢ local m
  pub apart : (k n ctxt : ℕ) → StandsInObject answers k ctxt → StandsInObject answers n ctxt → k ≡ n
  pub names : (k ctxt its : ℕ) (notes : ExportMetadata) (properties : List Item) →
      answers k ≡ Some (Written ctxt notes properties) →
      StandsInside answers k its →
      its ≢ ctxt

-- what was read of the modules on the list of a program, whose settings, entry and graph the linker
-- has; each has its context, and in front of its own items stands what the hooks may have answered
pub record AreReadIn (p : Program) (hooks : Hooks) (linker : Linker) (local : ℕ → ℕ) (next : ℕ)
    (reads : List ReadModule) : Type 0 where
  pub links : Links (config_of linker) p.settings
  pub by_needs : p.settings.in_standard_order ≡ false
  pub begins : p.entry ≡ entry_of linker
  pub graph : (m : ℕ) → deps (graph_of linker) m ≡ requested p m
  pub right : AreModulesRight p (list_of linker)
  pub answers : ℕ → Option HookAnswer
  pub fronts : (k m : ℕ) (read : ReadModule) (part : BundleModule) →
      slice_get (list_of linker) k ≡ Some m →
      slice_get reads k ≡ Some read →
      IsPartRead read part →
      HasFront p hooks m part (answers k)
  pub past : (k : ℕ) → slice_get (list_of linker) k ≡ None → answers k ≡ None
  pub objects : AreObjectsApart (list_of linker) local next answers
  pub long : length reads ≡ length (list_of linker)
  pub each : (k m : ℕ) (read : ReadModule) (part : BundleModule) →
      slice_get (list_of linker) k ≡ Some m →
      slice_get reads k ≡ Some read →
      IsPartRead read part →
      IsModuleRead p (list_of linker) m part
  pub locals : (k m : ℕ) (read : ReadModule) (part : BundleModule) →
      slice_get (list_of linker) k ≡ Some m →
      slice_get reads k ≡ Some read →
      IsPartRead read part →
      part.local ≡ local m
  pub own : (m : ℕ) → IsReached p m → 1 < local m
  pub free : (m : ℕ) → IsReached p m → local m < next
  pub apart : (m n : ℕ) → IsReached p m → IsReached p n → local m ≡ local n → m ≡ n

-- modules are linked as the linker's settings say
pub record IsLinkedRead (linker : Linker) (reads : List ReadModule)
    (linking : Linking) : Type 0 where
  pub links : List LinkModule
  pub each : AllZip IsLinkRead reads links
  pub linked : (p : Program) →
      IsLinkProgram p links (numbers_below (length links)) (length links - 1)
      (config_of linker).require →
      IsLinkingOf p linking
  pub handed : (p : Program) →
      IsLinkProgram p links (numbers_below (length links)) (length links - 1)
      (config_of linker).require →
      HandsOver p (numbers_below (length links)) linking

-- what is merged: the modules that were read, for which the hook is not asked, as they are linked,
-- their blocks, and contexts from this one on
pub record IsBundleRead (reads : List ReadModule) (linking : Linking) (blocks : List Block)
    (next : ℕ) (bundle : BundleInput) : Type 0 where
  pub parts : AllZip IsPartRead reads bundle.parts.now
  pub answers : bundle.answers.now ≡ []
  pub linked : bundle.linking.now ≡ linking
  pub its_blocks : bundle.blocks.now ≡ blocks
  pub contexts : position bundle.contexts ≡ next

-- something is made of them, of few contexts
pub record IsMadeOfRead (reads : List ReadModule) (linking : Linking) (blocks : List Block)
    (next : ℕ) (merged : MergedModule) : Type 0 where
  pub bundle : BundleInput
  pub read : IsBundleRead reads linking blocks next bundle
  pub made : IsMergedAs bundle merged
  pub few : TakesAs bundle merged

-- or nothing is
pub record IsRefusedOfRead (reads : List ReadModule) (linking : Linking) (blocks : List Block)
    (next : ℕ) (refusal : MergeError) : Type 0 where
  pub bundle : BundleInput
  pub read : IsBundleRead reads linking blocks next bundle
  pub refused : IsRefusedAs bundle refusal

-- for memory, or as the merge of bundles refuses
abbrev pub MayRefuseRead : List ReadModule → Linking → List Block → ℕ → MergeError → Type 0
MayRefuseRead reads linking blocks next refusal =
    (refusal ≡ OutOfMemory) ⊎ IsRefusedOfRead reads linking blocks next refusal
