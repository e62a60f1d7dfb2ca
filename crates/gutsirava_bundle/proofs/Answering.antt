-- The answer of the command, by what its steps gave.
use Rattle.std.proofs.Common.{◌≡◌, ℕ, Bool, List, [], ◌∷◌, Option, length, map, ap, sym, subst, ◌∙◌}
use Rattle.std.proofs.lemmas.List.{length-map}
use Rattle.std.proofs.lemmas.Slice.Zip.{AllZip-long}
use Rattle.std.specs.List.{AllZip}
use Rattle.std.specs.declared.alloc.Global.{Global}
use Rattle.std.specs.declared.string.String.{String}
use Rattle.bundle_tree_ast.specs.declared.module.Module.{Module}
use Rattle.bundle_tree_ast.specs.declared.expr.Expr.{Expr}
use Rattle.bundle_tree_ast.specs.declared.prop.KeyValueProp.{KeyValueProp}
use Rattle.bundle_tree_names.specs.FileName.{Name}
use Rattle.bundle_tree_names.specs.declared.file_name.FileName.{FileName}
use Rattle.bundle_rules.specs.Entries.{Settings}
use Rattle.bundle_rules.specs.Headline.{Answer, Bundles, IsBundleOf}
use Rattle.bundle_rules.specs.Judging.{Entry}
use Rattle.bundler_call.specs.Answer.{bundled_of}
use Rattle.bundler_call.specs.Kept.{entry_of}
use Rattle.bundler_call.specs.declared.bundle.Bundle.{Bundle}
use Rattle.gutsirava_bundle.specs.BundleText.{IsFramed}
use Rattle.gutsirava_bundle.specs.Command.{link_settings, parties_beside, BeginsWith, HasTextOf, IsCommandAnswer, IsLinked, IsNamedFor}
use Rattle.gutsirava_bundle.specs.Linking.{BeginsAt, HasNameOf, IsLinkAnswer}
use Rattle.gutsirava_graph.specs.Graph.{IsRootOf}
use Rattle.gutsirava_bundle.specs.Parties.{gives_nothing, fails_nowhere}
use Rattle.gutsirava_bundle.specs.declared.bundling.BundleText.{BundleText}
use Rattle.gutsirava_graph.specs.declared.entries.Root.{Root}
use Rattle.gutsirava_graph.specs.declared.settings.BundleEntry.{BundleEntry}
use Rattle.gutsirava_graph.specs.declared.settings.BundleSettings.{BundleSettings}
use Rattle.std.specs.String.{string_bytes}

-- each entry of the linker's is the module with which the bundle begins
pub begins_with : (roots : List Root) (entries : List (String Global × FileName)) → AllZip BeginsAt roots entries →
    AllZip BeginsWith (map (λ root. root.unit) roots) (map entry_of entries)
begins_with [] [] all = tt
begins_with [] (entry ∷ entries) all = absurd all
begins_with (root ∷ roots) [] all = absurd all
begins_with (root ∷ roots) (entry ∷ entries) all = (all.0, begins_with roots entries all.1)

-- what is linked with the same parties, settings and trees
pub linked_as : (given may_give : Name → Bool → List (KeyValueProp Expr) → Type 0) (fails may_fail : Name → Bool → Type 0) (held settings : Settings) (kept trees : List (Option Module)) (entries : List Entry) (answer : Answer) →
    given ≡ may_give → fails ≡ may_fail → held ≡ settings → kept ≡ trees →
    IsLinked given fails held kept entries answer → IsLinked may_give may_fail settings trees entries answer
linked_as given may_give fails may_fail held settings kept trees entries answer same_give same_fail same_settings same_trees linked =
    subst (λ it. IsLinked may_give may_fail settings it entries answer) same_trees
    (subst (λ it. IsLinked may_give may_fail it kept entries answer) same_settings
    (subst (λ it. IsLinked may_give it held kept entries answer) same_fail
    (subst (λ it. IsLinked it fails held kept entries answer) same_give linked)))

-- as many bundles come as entries were found
pub as_many : (settings : BundleSettings) (external : List (List ℕ)) (trees : List (Option Module)) (roots : List Root) (entries : List (String Global × FileName)) (bundles : List Bundle) →
    AllZip BeginsAt roots entries →
    IsLinked gives_nothing fails_nowhere (link_settings settings external) trees (map entry_of entries) (Bundles (map bundled_of bundles)) →
    length bundles ≡ length roots
as_many settings external trees roots entries bundles begins linked =
    sym (length-map bundles bundled_of)
    ∙ sym (AllZip-long (IsBundleOf (parties_beside gives_nothing fails_nowhere trees) (link_settings settings external) linked.kept) (map bundled_of bundles) (map entry_of entries) linked.headline.right.1)
    ∙ length-map entries entry_of
    ∙ AllZip-long BeginsAt roots entries begins

pub link_answer : (settings : BundleSettings) (external : List (List ℕ)) (trees : List (Option Module)) (roots : List Root) (entries : List (String Global × FileName)) (bundles : List Bundle) (outputs : List BundleText) →
    AllZip BeginsAt roots entries →
    IsLinked gives_nothing fails_nowhere (link_settings settings external) trees (map entry_of entries) (Bundles (map bundled_of bundles)) →
    (length bundles ≡ length roots → AllZip (HasTextOf settings) bundles outputs × AllZip HasNameOf roots outputs) →
    IsLinkAnswer settings roots outputs
link_answer settings external trees roots entries bundles outputs begins linked are =
    let same = as_many settings external trees roots entries bundles begins linked in
    record {
      trees = trees;
      external = external;
      begins = map entry_of entries;
      bundles = bundles;
      each_begins = begins_with roots entries begins;
      linked = linked;
      texts = (are same).0;
      names = (are same).1;
    }

-- a text that is called as what was found of an entry is called as the entry
pub named_for : (entries : List BundleEntry) (roots : List Root) (outputs : List BundleText) →
    AllZip IsRootOf entries roots → AllZip HasNameOf roots outputs → AllZip IsNamedFor entries outputs
named_for [] [] [] found named = tt
named_for [] [] (output ∷ outputs) found named = absurd named
named_for [] (root ∷ roots) outputs found named = absurd found
named_for (entry ∷ entries) [] outputs found named = absurd found
named_for (entry ∷ entries) (root ∷ roots) [] found named = absurd named
named_for (entry ∷ entries) (root ∷ roots) (output ∷ outputs) found named =
    (named.0 ∙ ap string_bytes found.0, named_for entries roots outputs found.1 named.1)

pub command_answer : (settings : BundleSettings) (entries : List BundleEntry) (roots : List Root) (outputs : List BundleText) →
    AllZip IsRootOf entries roots → IsLinkAnswer settings roots outputs → IsCommandAnswer settings entries outputs
command_answer settings entries roots outputs found answer = record {
  trees = answer.trees;
  external = answer.external;
  units = map (λ root. root.unit) roots;
  begins = answer.begins;
  bundles = answer.bundles;
  each_begins = answer.each_begins;
  linked = answer.linked;
  texts = answer.texts;
  names = named_for entries roots outputs found answer.names;
}

-- the text of a bundle behind some first line
pub text_of_bundle : (settings : BundleSettings) (bundle : Bundle) (output : BundleText) (hashbang : Option (List ℕ)) (is_common_js : Bool) → IsFramed hashbang is_common_js settings bundle.module (string_bytes output.text) → HasTextOf settings bundle output
text_of_bundle settings bundle output hashbang is_common_js framed =
    record { hashbang = hashbang; is_common_js = is_common_js; framed = framed }
