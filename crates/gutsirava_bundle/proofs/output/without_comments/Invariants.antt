use Rattle.std.proofs.Common.{◌-◌, ◌≤◌, drop, length, map, take}
use Rattle.bundle_syntax.specs.Item.{item_of}
use Rattle.gutsirava_bundle.proofs.CommentLemmas.{LeavesSoFar}
use Rattle.gutsirava_bundle.proofs.output.without_comments.Given as goal

abbrev pub invariant-loop-at : goal.invariant-loop-at
invariant-loop-at l = (l.kept ≤ l.at) × LeavesSoFar (map item_of l.fn.listed.items) (map item_of (take l.kept l.pieces.items)) (map item_of (drop l.at l.pieces.items))

abbrev pub decreases-loop-at : goal.decreases-loop-at
decreases-loop-at l = length l.pieces.items - l.at
