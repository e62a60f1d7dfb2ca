-- What was read of the modules of a program, by their places on its list.
use Rattle.std.specs.Prelude.{◌≡◌, ℕ, ◌<◌, true, false, List, [], ◌∷◌, Option, Some, None, Contains, length, slice_get}
use Rattle.std.specs.Option.{option_and_then}
use Rattle.std.specs.BTreeMap.{get_by_text}
use Rattle.bundle_syntax.specs.declared.kind.ExportMetadata.{ExportMetadata}
use Rattle.bundle_tree_names.specs.FileName.{Name}
use Rattle.bundle_syntax.specs.Item.{Item}
use Rattle.bundle_rules.specs.Bundle.{Hooks}
use Rattle.bundle_rules.specs.Cleared.{cleared}
use Rattle.bundle_rules.specs.Declarations.{BySymbol}
use Rattle.bundle_rules.specs.Doubled.{first_doubled}
use Rattle.bundle_rules.specs.Entries.{has_import_meta}
use Rattle.bundle_rules.specs.Faults.{IsFaultless}
use Rattle.bundle_rules.specs.Judging.{requests_in}
use Rattle.bundle_rules.specs.Meaning.{HasKind}
use Rattle.bundle_rules.specs.Merged.{IsMetaItem, meta_item}
use Rattle.bundle_rules.specs.Nodes.{Text}
use Rattle.bundle_rules.specs.Program.{Program, tree_of, IsReached, IsList}
use Rattle.bundle_rules.specs.Scopes.{ModuleKind}
use Rattle.bundle_rules.specs.Tables.{IsChecked}
use Rattle.bundle_scope_denote.specs.Listed.{IsDenotationTable}
use Rattle.bundle_scope_names.specs.fit.Fits.{AreFit, IsFit}
use Rattle.bundle_scope_names.specs.fit.Sorts.{AModule, AProperty, Many, slot}
use Rattle.bundle_link_index.specs.Programs.{IsTableOf}
use Rattle.bundle_link_index.specs.declared.target.LinkModule.{LinkModule}
use Rattle.bundle_link.specs.Default.{DeclaresDefaultAlone}
use Rattle.bundle_link.specs.Leads.{module_place}
use Rattle.bundle_link_targets.specs.Meant.{IsModuleTree}
use Rattle.bundle_merge_theory.specs.made.Given.{HookAnswer, Written}
use Rattle.bundle_merge_theory.specs.sound.Known.{LeadsAll}
use Rattle.bundle_merge_names.specs.Bundle.{IsWrittenIn, list_of_part}
use Rattle.bundle_merge_names.specs.declared.part.BundleModule.{BundleModule}

-- what is so of the modules that the entry of a program reaches, which stand on this list: a check
-- of linking finds nothing, no name is declared twice, each request leads to a module, and each
-- tree is that of a module
pub record AreModulesRight (p : Program) (list : List ℕ) : Type 0 where
  pub is_list : IsList p list
  pub checked : IsChecked p None
  pub undoubled : (m : ℕ) (kind : ModuleKind) →
      IsReached p m →
      HasKind p m kind →
      first_doubled kind (tree_of p m) ≡ None
  pub trees : (m : ℕ) → IsReached p m → IsModuleTree (tree_of p m)
  pub default : (m : ℕ) → IsReached p m → DeclaresDefaultAlone (tree_of p m)
  pub fit : (m : ℕ) → IsReached p m → IsFit AModule 0 (tree_of p m)
  pub leads : LeadsAll p

-- a part is what was read of module m: its own items, whose list is the module's tree but for
-- contexts and notes, what the names in it denote, its table, and where its requests lead among the
-- places of the list
pub record IsModuleRead (p : Program) (list : List ℕ) (m : ℕ) (part : BundleModule) : Type 0 where
  pub tree : tree_of p m ≡ cleared (list_of_part part)
  pub names : (kind : ModuleKind) →
      HasKind p m kind →
      IsDenotationTable BySymbol kind (list_of_part part) part.denotations.now
  pub table : IsTableOf p m part.tables.now
  pub meta : part.tables.now.has_import_meta ≡ has_import_meta (tree_of p m)
  pub leads : (s : Text) →
      Contains (requests_in p.settings (tree_of p m)) s →
      get_by_text part.leads.now s ≡ option_and_then (module_place list) (p.leads m s)
  pub within : (d : ℕ) (s : Text) → get_by_text part.leads.now s ≡ Some d → d < length list
  pub faultless : (file : Name) × IsFaultless file (list_of_part part)

-- what stands in front of the own items of a part: where module m has an `import.meta`, the object
-- that holds it, as it is written already; else nothing
pub data HasFront (p : Program) (hooks : Hooks) (m : ℕ) (part : BundleModule) : Option HookAnswer →
    Type 0 where
  nothing : has_import_meta (tree_of p m) ≡ false →
      part.written ≡ None →
      HasFront p hooks m part None
  object : (ctxt : ℕ) (notes : ExportMetadata) (properties : List Item) →
      has_import_meta (tree_of p m) ≡ true →
      IsMetaItem p hooks m (meta_item notes ctxt properties) →
      AreFit (slot 0 Many AProperty ∷ []) properties →
      IsWrittenIn part ctxt notes properties →
      HasFront p hooks m part (Some (Written ctxt notes properties))

-- what was read of each module, by its place on the list, and the same as it is linked
pub record AreReadAndLinked (p : Program) (list : List ℕ) (links : List LinkModule)
    (parts : List BundleModule) : Type 0 where
  pub long_links : length links ≡ length list
  pub long : length parts ≡ length list
  pub each : (k m : ℕ) (part : BundleModule) →
      slice_get list k ≡ Some m →
      slice_get parts k ≡ Some part →
      IsModuleRead p list m part
  pub tables : (k : ℕ) (link : LinkModule) (part : BundleModule) →
      slice_get links k ≡ Some link →
      slice_get parts k ≡ Some part →
      link.tables.now ≡ part.tables.now
  pub leads : (k : ℕ) (link : LinkModule) (part : BundleModule) →
      slice_get links k ≡ Some link →
      slice_get parts k ≡ Some part →
      link.leads.now ≡ part.leads.now
