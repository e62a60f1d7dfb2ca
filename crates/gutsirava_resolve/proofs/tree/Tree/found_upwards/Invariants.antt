use Rattle.std.proofs.Common.{length}
use denote.Text.{Utf8}
use denote.Shadow.{shadow}
use Rattle.gutsirava_resolve.proofs.tree.Tree.found_upwards.Given as goal

abbrev pub invariant-loop-found : goal.invariant-loop-found
invariant-loop-found g l = shadow (Utf8 l.here)

abbrev pub decreases-loop-found : goal.decreases-loop-found
decreases-loop-found g l = length l.here
