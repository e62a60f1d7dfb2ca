-- What the command gives for entries.
use Rattle.std.specs.Prelude.{◌≡◌, ℕ, Bool, true, false, List, Option, Result, Ok, Err, map}
use Rattle.std.specs.List.{AllZip}
use Rattle.std.specs.String.{string_bytes}
use Rattle.bundle_tree_ast.specs.declared.expr.Expr.{Expr}
use Rattle.bundle_tree_ast.specs.declared.module.Module.{Module}
use Rattle.bundle_tree_ast.specs.declared.prop.KeyValueProp.{KeyValueProp}
use Rattle.bundle_tree_names.specs.FileName.{Name}
use Rattle.bundle_tree_names.specs.declared.error.Error.{Error}
use Rattle.bundle_tree_names.specs.declared.config.ModuleType.{ModuleType}
use Rattle.bundle_tree_names.specs.declared.config.ModuleType.TheVariants.{Es, Iife}
use Rattle.bundle_rules.specs.Entries.{Settings}
use Rattle.bundle_rules.specs.Faults.{Parties, fault_of}
use Rattle.bundle_rules.specs.Headline.{Answer, Bundles, IsHeadline}
use Rattle.bundle_rules.specs.Judging.{Entry}
use Rattle.bundle_rules.specs.Kept.{Kept, nothing_kept}
use Rattle.bundler_call.specs.Answer.{bundled_of, refusal_of}
use Rattle.bundler_call.specs.Kept.{parties_of}
use Rattle.bundler_call.specs.declared.bundle.Bundle.{Bundle}
use Rattle.gutsirava_bundle.specs.BundleText.{IsBundleText}
use Rattle.gutsirava_graph.specs.Numbers.{unit_name}
use Rattle.gutsirava_bundle.specs.Parties.{HandsOver, LeadsTo, gives_nothing, fails_nowhere, may_fail_to_load, may_fail_to_resolve}
use Rattle.gutsirava_bundle.specs.declared.bundling.BundleText.{BundleText}
use Rattle.gutsirava_bundle.specs.declared.bundling.LinkedBundles.{LinkedBundles}
use Rattle.gutsirava_graph.specs.declared.settings.BundleEntry.{BundleEntry}
use Rattle.gutsirava_graph.specs.declared.settings.BundleSettings.{BundleSettings}
use Rattle.gutsirava_graph.specs.declared.settings.OutputFormat.{OutputFormat}
use Rattle.gutsirava_graph.specs.declared.settings.OutputFormat.TheVariants as format

-- whether a bundle is a script
abbrev pub is_script : OutputFormat → Bool
is_script format.Module = false
is_script format.Iife = true

-- what the linker writes a bundle as
abbrev pub module_type : OutputFormat → ModuleType
module_type format.Module = Es
module_type format.Iife = Iife

-- the linker's settings: calls of `require` are linked, these texts are left, the bundle is written
-- as it is asked for, names are told apart by their symbols, there is no limit on modules but that
-- on their numbers, and they stand in the order that is asked for
abbrev pub link_settings : BundleSettings → List (List ℕ) → Settings
link_settings settings external = record {
  require = true;
  external = external;
  iife = is_script settings.format;
  renames = true;
  most_modules = 4294967295;
  in_standard_order = settings.in_standard_order;
}

-- what loader and resolver of modules with these trees may answer, and where they may fail, beside
-- a hook
abbrev pub parties_beside : (Name → Bool → List (KeyValueProp Expr) → Type 0) →
    (Name → Bool → Type 0) → List (Option Module) → Parties
parties_beside may_give may_fail_hook trees = parties_of
    (HandsOver trees)
    may_fail_to_load
    (λ base. LeadsTo)
    may_fail_to_resolve
    may_give
    may_fail_hook

-- bundles, or what the refusal tells
abbrev pub linked_told : Result LinkedBundles Error → Answer
linked_told (Ok linked) = Bundles (map bundled_of linked.bundles.items)
linked_told (Err refusal) = refusal_of (fault_of refusal)

-- what the linker answers for modules with these trees, of which these texts are left, and for
-- these entries, as the headline has it of a linker that kept nothing
pub record IsLinked
    (may_give : Name → Bool → List (KeyValueProp Expr) → Type 0)
    (may_fail_hook : Name → Bool → Type 0) (settings : Settings) (trees : List (Option Module))
    (entries : List Entry) (answer : Answer) : Type 0
  where
    pub kept : Kept
    pub headline : IsHeadline (parties_beside may_give may_fail_hook trees) settings entries
        nothing_kept answer kept

-- an entry of the linker's is the module of this number
abbrev pub BeginsWith : ℕ → Entry → Type 0
BeginsWith unit entry = entry.file ≡ unit_name unit

-- a text is that of a bundle
abbrev pub HasTextOf : BundleSettings → Bundle → BundleText → Type 0
HasTextOf settings bundle output = IsBundleText settings bundle.module (string_bytes output.text)

-- a text is called as its entry
abbrev pub IsNamedFor : BundleEntry → BundleText → Type 0
IsNamedFor entry output = string_bytes output.name ≡ string_bytes entry.name

-- THE ANSWER of the command where no error is told. There are modules, each with its number and its
-- tree, and for each entry one with which its bundle begins. The linker's bundles of these are
-- right: each is a bundle of its entry's program, as the headline has it, where keys lead to the
-- modules that they ask for and these texts are left. The command gives their texts, one for each
-- entry and under its name, in the order of the entries
pub record IsCommandAnswer
    (settings : BundleSettings) (entries : List BundleEntry) (outputs : List BundleText) : Type 0
  where
    pub trees : List (Option Module)
    pub external : List (List ℕ)
    pub units : List ℕ
    pub begins : List Entry
    pub bundles : List Bundle
    pub each_begins : AllZip BeginsWith units begins
    pub linked : IsLinked gives_nothing fails_nowhere (link_settings settings external) trees begins
        (Bundles (map bundled_of bundles))
    pub texts : AllZip (HasTextOf settings) bundles outputs
    pub names : AllZip IsNamedFor entries outputs
