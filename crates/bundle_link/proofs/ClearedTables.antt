-- What is read of a tree is read of it cleared too: so it is the table of a module whose tree is kept cleared.
-- The file of a module is among the files of all.
use Rattle.std.proofs.Common.{◌≡◌, ℕ, true, List, Contains, map, sym, ap, ◌∙◌, Some, slice_get}
use Rattle.std.specs.Prelude.{codes, filter, not}
use Rattle.std.specs.List.{flat_map}
use Rattle.std.specs.Option.{option_map}
use Rattle.std.proofs.lemmas.Option.{slice_get-map, slice_get_within, get_or_from_slice_get}
use Rattle.bundle_tree_names.specs.FileName.{Name}
use Rattle.bundle_tree_names.specs.declared.config.Config.{Config}
use Rattle.bundle_syntax.specs.Item.{Item}
use Rattle.bundle_rules.specs.Nodes.{Text, each_once}
use Rattle.bundle_rules.specs.Entries.{ExportEntry, exports_of, is_named}
use Rattle.bundle_rules.specs.Faults.{IsFaultless}
use Rattle.bundle_rules.specs.Program.{Program, tree_of}
use Rattle.bundle_rules.specs.Tables.{is_star, star_of}
use Rattle.bundle_rules.specs.Cleared.{cleared}
use Rattle.bundle_rules.proofs.EntryLemmas.{imports_of-cleared, exports_of-cleared, declared_requests-cleared, asked_names-cleared}
use Rattle.bundle_rules.proofs.CallLemmas as calls
use Rattle.bundle_rules.proofs.CallLemmas.{has_free-cleared, linked_calls-cleared, is_script-cleared, awaits_outside-cleared}
use Rattle.bundle_rules.proofs.FaultLemmas as faults
use Rattle.bundle_link_tables.specs.Sources.{told_external}
use Rattle.bundle_link_tables.specs.declared.table.Tables.{Tables}
use Rattle.bundle_link_index.specs.Programs.{IsTableOf}
use Rattle.bundle_link.proofs.OrderLemmas.{uses_of-cleared, uses_common_js-cleared}
use Rattle.bundle_link.specs.Read.{AreTablesOf}
use Rattle.bundle_link.specs.Refusals.{Links}
use Rattle.bundle_link.proofs.ProgramLemmas.{each_once_of, table_of}

-- ---- cleared tables

-- the tables of a tree are those of the cleared tree
pub cleared-tables : (config : Config) (file : Name) (tree : List Item) (tables : Tables) → AreTablesOf config file tree tables → AreTablesOf config file (cleared tree) tables
cleared-tables config file tree tables read = record {
  faultless = faults.faultless file tree read.faultless;
  requests = λ settings links. read.requests settings links ∙ sym (calls.requests settings tree);
  imports = read.imports ∙ sym (imports_of-cleared tree);
  exports = read.exports ∙ ap (filter (λ entry. not (is_star entry))) (sym (exports_of-cleared tree));
  stars = read.stars ∙ ap (λ (entries : List ExportEntry). each_once (flat_map star_of entries)) (sym (exports_of-cleared tree));
  sources = λ settings links. read.sources settings links ∙ ap (map (told_external settings.external)) (sym (declared_requests-cleared tree));
  calls = λ settings links. read.calls settings links ∙ sym (linked_calls-cleared settings tree);
  script = read.script ∙ sym (is_script-cleared tree);
  common_js = read.common_js ∙ sym (uses_common_js-cleared tree);
  awaits = read.awaits ∙ sym (awaits_outside-cleared tree);
  arguments = read.arguments ∙ sym (has_free-cleared tree (codes "arguments"));
  names = read.names ∙ sym (asked_names-cleared tree);
  uses = read.uses ∙ sym (uses_of-cleared tree);
}

-- so they are the table of a module of the program whose tree is the cleared one
pub cleared-table : (p : Program) (m : ℕ) (config : Config) (file : Name) (tree : List Item) (tables : Tables) → Links config p.settings → tree_of p m ≡ cleared tree → AreTablesOf config file tree tables → IsTableOf p m tables
cleared-table p m config file tree tables links is read = table_of p m config file (cleared tree) tables links (sym is) (cleared-tables config file tree tables read)

-- a cleared tree whose tree has no fault has no two exports of one name
pub cleared-once : (file : Name) (tree : List Item) → IsFaultless file tree → (x : Text) (a b : ExportEntry) → Contains (exports_of (cleared tree)) a → Contains (exports_of (cleared tree)) b → is_named x a ≡ true → is_named x b ≡ true → a ≡ b
cleared-once file tree none = each_once_of file (cleared tree) (faults.faultless file tree none)

-- ---- file

-- what is made of an element stands among what is made of all
pub at_place : {A B : Type 0} (f : A → B) (xs : List A) (i : ℕ) (x : A) → slice_get xs i ≡ Some x → Contains (map f xs) (f x)
at_place f xs i x e =
    let there = slice_get-map f xs i ∙ ap (option_map f) e in
    (i, slice_get_within (map f xs) i (f x) there, get_or_from_slice_get (map f xs) i (f x) (f x) there)
