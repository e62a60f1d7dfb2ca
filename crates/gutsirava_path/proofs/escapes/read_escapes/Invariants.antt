use Rattle.std.proofs.Common.{length}
use Rattle.gutsirava_path.proofs.escapes.read_escapes.Given as goal

abbrev pub decreases-loop-first : goal.decreases-loop-first
decreases-loop-first l = length l.rest
