-- What the command hands to the linker, and what it makes of what that gives.
use Rattle.std.specs.Prelude.{◌≡◌, ℕ, List, Option, map}
use Rattle.std.specs.List.{AllZip}
use Rattle.std.specs.String.{string_bytes}
use Rattle.std.specs.declared.alloc.Global.{Global}
use Rattle.std.specs.declared.string.String.{String}
use Rattle.bundle_tree_ast.specs.declared.module.Module.{Module}
use Rattle.bundle_tree_names.specs.FileName.{name_of}
use Rattle.bundle_tree_names.specs.declared.file_name.FileName.{FileName}
use Rattle.bundle_rules.specs.Headline.{Bundles}
use Rattle.bundle_rules.specs.Judging.{Entry}
use Rattle.bundler_call.specs.Answer.{bundled_of}
use Rattle.bundler_call.specs.declared.bundle.Bundle.{Bundle}
use Rattle.gutsirava_bundle.specs.Command.{link_settings, BeginsWith, HasTextOf, IsLinked}
use Rattle.gutsirava_graph.specs.Numbers.{unit_name}
use Rattle.gutsirava_bundle.specs.Parties.{gives_nothing, fails_nowhere}
use Rattle.gutsirava_bundle.specs.declared.bundling.BundleText.{BundleText}
use Rattle.gutsirava_graph.specs.declared.entries.Root.{Root}
use Rattle.gutsirava_graph.specs.declared.settings.BundleSettings.{BundleSettings}

-- an entry as the linker takes it is the module with which the bundle begins
abbrev pub BeginsAt : Root → String Global × FileName → Type 0
BeginsAt root entry = name_of entry.1 ≡ unit_name root.unit

-- a text is called as the entry that was found
abbrev pub HasNameOf : Root → BundleText → Type 0
HasNameOf root output = string_bytes output.name ≡ string_bytes root.name

-- the texts of the linker's bundles of some modules, one for each entry that was found
pub record IsLinkAnswer (settings : BundleSettings) (roots : List Root)
    (outputs : List BundleText) : Type 0 where
  pub trees : List (Option Module)
  pub external : List (List ℕ)
  pub begins : List Entry
  pub bundles : List Bundle
  pub each_begins : AllZip BeginsWith (map (λ root. root.unit) roots) begins
  pub linked : IsLinked gives_nothing fails_nowhere (link_settings settings external) trees begins
      (Bundles (map bundled_of bundles))
  pub texts : AllZip (HasTextOf settings) bundles outputs
  pub names : AllZip HasNameOf roots outputs
