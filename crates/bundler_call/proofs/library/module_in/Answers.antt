-- A look-up among trees is one among what they are kept as.
use Rattle.std.proofs.Common.{◌∙◌, ap, sym, Bor}
use Rattle.std.specs.Option.{option_map}
use Rattle.bundle_tree_names.specs.FileName.{name_of, name_eq}
use Rattle.bundle_tree.specs.declared.load.ModuleData.{ModuleData}
use Rattle.bundler_call.specs.KeptFiles.{trees_in}
use Rattle.bundler_call.proofs.Holding.{option_map-step}
use Rattle.bundler_call.specs.Kept.{kept_as}
use Rattle.bundler_call.proofs.Growing.{lookup-read}
use Rattle.bundler_call.proofs.library.module_in.Goals as goal

pub returns : goal.returns
returns c =
    option_map-step (λ (loaded : Bor ModuleData). loaded.now) kept_as c.tree.result ∙ ap (option_map kept_as) c.tree.ensures
    ∙ sym (lookup-read kept_as (name_eq (name_of c.args.file.now)) (trees_in c.args.kept.now))
