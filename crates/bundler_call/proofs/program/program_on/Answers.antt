-- What was read of a list is the program of each entry.
use Rattle.bundler_call.specs.Kept.{kept_of, settings_of}
use Rattle.bundler_call.proofs.Sources.{read_of}
use Rattle.bundler_call.proofs.program.program_on.Goals as goal

pub sources_on-requires : goal.sources_on-requires
sources_on-requires c = record { external = c.in_ok-external.ensures; sound = c.requires }

pub returns : goal.returns
returns c =
    read_of c.program_of.result (settings_of c.args.config.now) (kept_of c.args.kept.now) c.args.list.now _ _ _ c.as_slice.ensures c.as_slice-2.ensures.value c.in_ok-sources.ensures c.program_of.ensures.program c.program_of.ensures.files
