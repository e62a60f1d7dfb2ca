use Rattle.std.proofs.Common.{◌≡◌}
use Rattle.gutsirava_files.proofs.outputs.Writer.write_beside.Given as goal

abbrev pub invariant-loop : goal.invariant-loop
invariant-loop g l = l.self.stages ≡ l.initial.self.stages
