use Rattle.std.proofs.Common.{◌≡◌, flat_map, map}
use Rattle.gutsirava_run.specs.Delivery.{stored_file, files_for}
use Rattle.gutsirava_run.proofs.delivery.files_of.Given as goal

abbrev pub invariant-loop-bundle : goal.invariant-loop-bundle
invariant-loop-bundle l = map stored_file l.files.items ≡ flat_map (files_for l.output l.format l.source_map) l.yielded
