use Rattle.std.proofs.Common.{length}
use denote.Text.{Utf8}
use denote.Shadow.{shadow}
use Rattle.gutsirava_resolve.proofs.tree.Tree.installed_folder.Given as goal

abbrev pub invariant-loop-modules : goal.invariant-loop-modules
invariant-loop-modules g l = shadow (Utf8 l.here)

abbrev pub decreases-loop-modules : goal.decreases-loop-modules
decreases-loop-modules g l = length l.here
