use Rattle.std.proofs.Common.{◌≡◌, map, take}
use Rattle.gutsirava_files.specs.Stages.{wanted_by, wanted_of}
use Rattle.gutsirava_files.proofs.outputs.Writer.stage_all.Given as goal

abbrev pub invariant-loop-output : goal.invariant-loop-output
invariant-loop-output g l =
    map wanted_by l.self.stages.items ≡ map wanted_of (take l.output-index l.outputs)
