-- Why the table of a module is not given, and why modules are not linked.
use Rattle.std.specs.Prelude.{◌≡◌, IfSome, List, Contains, map, string_bytes}
use Rattle.std.specs.Borrow.{Bor}
use Rattle.indexmap.specs.IndexSet.{IndexSet}
use Rattle.bundle_tree_names.specs.FileName.{Name, name_of}
use Rattle.bundle_tree_names.specs.declared.config.Config.{Config}
use Rattle.bundle_tree_names.specs.declared.error.Error.{Error}
use Rattle.bundle_tree_names.specs.declared.error.Error.TheVariants as e
use Rattle.bundle_syntax.specs.Item.{Item}
use Rattle.bundle_rules.specs.Entries.{Settings}
use Rattle.bundle_rules.specs.Faults.{fault_of, IsFirstTreeFault}
use Rattle.bundle_rules.specs.Nodes.{Text}
use Rattle.bundle_link_tables.specs.Sources.{HasTexts}
use Rattle.bundle_link.specs.declared.transformed.TransformedModule.{TransformedModule}

-- the refusal is for memory, or tells of the first fault of the tree
abbrev pub IsTreeRefusal : Name → List Item → Error → Type 0
IsTreeRefusal file tree error = IfSome (fault_of error) (IsFirstTreeFault file tree)

-- the settings link what a configuration says
abbrev pub Links : Config → Settings → Type 0
Links config settings =
    (settings.require ≡ config.require)
    × (settings.external ≡ map string_bytes config.external_modules.items)

-- a set holds just the texts that are external by a configuration
abbrev pub HasExternals : {S : Type 0} → IndexSet (Bor Text) S → Config → Type 0
HasExternals set config = HasTexts set (map string_bytes config.external_modules.items)

-- the refusal is for memory, or names one of these files and a fault of linking
abbrev pub IsLinkRefusal : List Name → Error → Type 0
IsLinkRefusal files e.OutOfMemory = Unit {0}
IsLinkRefusal files (e.MissingExport its name) = Contains files (name_of its)
IsLinkRefusal files (e.AmbiguousExport its name) = Contains files (name_of its)
IsLinkRefusal files (e.ExternalStarOnly its name) = Contains files (name_of its)
IsLinkRefusal files (e.StarOfCommonJs its specifier) = Contains files (name_of its)
IsLinkRefusal files (e.NamespaceOverExternalStar its) = Contains files (name_of its)
IsLinkRefusal files (e.RequiredEsModule its specifier) = Contains files (name_of its)
IsLinkRefusal files (e.RequiredEntry its specifier) = Contains files (name_of its)
IsLinkRefusal files (e.AwaitInCommonJs its) = Contains files (name_of its)
IsLinkRefusal files (e.ExternalUnderIife its specifier) = Contains files (name_of its)
IsLinkRefusal files (e.ArgumentsUnderIife its) = Contains files (name_of its)
IsLinkRefusal files _ = ⊥

-- the files of modules
abbrev pub module_files : List TransformedModule → List Name
module_files modules = map (λ m. name_of m.file_name) modules
