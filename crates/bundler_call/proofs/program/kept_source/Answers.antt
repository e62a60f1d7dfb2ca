-- A file that is kept and not at fault is there, and is read.
use Rattle.std.proofs.Common.{Bor, ap, refl, sym, ◌∙◌}
use Rattle.std.proofs.lemmas.Result.{IfOk-weaker}
use Rattle.std.specs.Option.{option_map}
use Rattle.bundle_tree_names.specs.FileName.{name_of}
use Rattle.bundle_rules.specs.Kept.{program_of}
use Rattle.bundle_tree.specs.declared.load.ModuleData.{ModuleData}
use Rattle.bundler_call.specs.Kept.{kept_as, kept_of, settings_of}
use Rattle.bundler_call.proofs.Sources.{is_there, read_sound, module_numbered}
use Rattle.bundler_call.proofs.program.kept_source.Goals as goal

pub unwrap-loaded-requires : goal.unwrap-loaded-requires
unwrap-loaded-requires c = is_there (kept_of c.args.kept.now) (name_of c.args.file.now) c.module_in.result c.module_in.ensures c.requires.sound

pub source_of-requires : goal.source_of-requires
source_of-requires c = record {
  faultless = read_sound (kept_of c.args.kept.now) (name_of c.args.file.now) c.unwrap-loaded.result.now (sym c.module_in.ensures ∙ ap (option_map (λ (x : Bor ModuleData). kept_as x.now)) c.unwrap-loaded.ensures) c.requires.sound;
  external = c.requires.external;
}

pub returns : goal.returns
returns c =
    IfOk-weaker c.source_of.result _ _ (λ source gives entry m number. gives (program_of (kept_of c.args.kept.now) (settings_of c.args.config.now) entry) m (refl, refl)
    (module_numbered (kept_of c.args.kept.now) (settings_of c.args.config.now) entry (name_of c.args.file.now) m (kept_as c.unwrap-loaded.result.now) number (sym c.module_in.ensures ∙ ap (option_map (λ (x : Bor ModuleData). kept_as x.now)) c.unwrap-loaded.ensures)))
    c.source_of.ensures
