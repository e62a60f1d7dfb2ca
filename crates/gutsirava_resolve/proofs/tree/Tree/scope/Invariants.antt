use Rattle.std.proofs.Common.{length}
use denote.Text.{Utf8}
use denote.Shadow.{shadow}
use Rattle.gutsirava_resolve.proofs.tree.Tree.scope.Given as goal

abbrev pub invariant-loop-here : goal.invariant-loop-here
invariant-loop-here g l = shadow (Utf8 l.here)

abbrev pub decreases-loop-here : goal.decreases-loop-here
decreases-loop-here g l = length l.here
