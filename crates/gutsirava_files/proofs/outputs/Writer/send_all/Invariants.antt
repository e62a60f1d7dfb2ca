use Rattle.std.proofs.Common.{All, take}
use Rattle.gutsirava_files.specs.Stages.{IsSent}
use Rattle.gutsirava_files.proofs.outputs.Writer.send_all.Given as goal

abbrev pub invariant-loop-stage : goal.invariant-loop-stage
invariant-loop-stage g l = All (IsSent g.D.Disk.is_written) (take l.stage-index l.self.stages.items)
