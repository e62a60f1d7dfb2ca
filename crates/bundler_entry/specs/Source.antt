-- What is read of the files of a call, as what is kept of them says it.
use Rattle.std.specs.Prelude.{◌≡◌, ℕ, ◌<◌, ◌≤◌, List, Some, true, Contains, IsTrue, length, slice_get}
use Rattle.std.specs.Option.{option_map}
use Rattle.bundle_tree_names.specs.FileName.{Name, name_of}
use Rattle.bundle_syntax.specs.Item.{Item}
use Rattle.bundle_tree_listed.specs.Tree.{module_items}
use Rattle.bundle_tree.specs.declared.load.ModuleData.{ModuleData}
use Rattle.bundle_rules.specs.Nodes.{Text}
use Rattle.bundle_rules.specs.Cleared.{cleared}
use Rattle.bundle_rules.specs.Declarations.{BySymbol}
use Rattle.bundle_rules.specs.Doubled.{first_doubled}
use Rattle.bundle_rules.specs.Entries.{ExportEntry, has_import_meta, is_named, is_script}
use Rattle.bundle_rules.specs.Faults.{IsFaultless}
use Rattle.bundle_rules.specs.Linking.{exports}
use Rattle.bundle_rules.specs.Program.{Loaded, Program, module_of, tree_of}
use Rattle.bundle_rules.specs.Scopes.{Cjs, Es}
use Rattle.bundle_scope_denote.specs.Listed.{IsDenotationTable, place_and_symbol, doubled_told}
use Rattle.bundle_scope_names.specs.fit.Fits.{IsFit}
use Rattle.bundle_scope_names.specs.fit.Sorts.{AModule}
use Rattle.bundle_link_index.specs.Programs.{IsTableOf}
use Rattle.bundle_link_targets.specs.Meant.{IsModuleTree}
use Rattle.bundle_link.specs.Files.{AreNotedOf}
use Rattle.bundle_link.specs.Default.{DeclaresDefaultAlone}
use Rattle.bundler_entry.specs.declared.source.ReadFiles.{ReadFiles as Read}
use Rattle.bundler_entry.specs.declared.source.ReadFile.{ReadFile}

-- a module as it is kept: its contexts and notes are gone
abbrev pub kept_as : ModuleData → Loaded
kept_as given =
    record { file_name = name_of given.file_name; items = cleared (module_items 0 given.module) }

-- the list of the tree that was read
abbrev pub list_of_source : ReadFile → List Item
list_of_source source = module_items 0 source.tree.now

-- what was read is module m of a program, with the name that its loader gave, its tree, what its
-- names denote in an ES module, the first of them that is declared twice there and, where it may be
-- one, in a CommonJS module, its table, and whether it has `import.meta`; it is the tree of a
-- module, has no fault by itself, and one entry of each name
pub record IsSourceOf (p : Program) (m : ℕ) (source : ReadFile) : Type 0 where
  pub loaded : Loaded
  pub there : module_of p m ≡ Some loaded
  pub given : name_of source.given.now ≡ loaded.file_name
  pub list : tree_of p m ≡ cleared (list_of_source source)
  pub names : IsDenotationTable BySymbol Es (list_of_source source) source.names
  pub doubled : option_map doubled_told source.noted.es
      ≡ option_map place_and_symbol (first_doubled Es (list_of_source source))
  pub doubled_common_js : IsTrue p.settings.require →
      IsTrue (is_script (tree_of p m)) →
      option_map doubled_told source.noted.common_js
      ≡ option_map place_and_symbol (first_doubled Cjs (list_of_source source))
  pub table : IsTableOf p m source.tables
  pub meta : source.tables.has_import_meta ≡ has_import_meta (tree_of p m)
  pub tree : IsModuleTree (tree_of p m)
  pub fit : IsFit AModule 0 (tree_of p m)
  pub faultless : (file : Name) × IsFaultless file (tree_of p m)
  pub default : DeclaresDefaultAlone (tree_of p m)
  pub once : (x : Text) (a b : ExportEntry) →
      Contains (exports p m) a →
      Contains (exports p m) b →
      is_named x a ≡ true →
      is_named x b ≡ true →
      a ≡ b

-- the same of modules in turn
pub record AreSourcesOf (p : Program) (numbers : List ℕ) (sources : List ReadFile) : Type 0 where
  pub long : length sources ≡ length numbers
  pub each : (place m : ℕ) (source : ReadFile) →
      slice_get numbers place ≡ Some m →
      slice_get sources place ≡ Some source →
      IsSourceOf p m source

-- the files of a call and what was read of them are those of a program, and the count is the least
-- that is above their numbers
pub record IsReadProgram (p : Program) (read : Read) : Type 0 where
  pub files : AreNotedOf p read.files
  pub sources : AreSourcesOf p read.files.ids.keys read.sources.items
  pub count : (m : ℕ) → Contains read.files.ids.keys m → m < read.count
  pub least : (n : ℕ) → ((m : ℕ) → Contains read.files.ids.keys m → m < n) → read.count ≤ n
