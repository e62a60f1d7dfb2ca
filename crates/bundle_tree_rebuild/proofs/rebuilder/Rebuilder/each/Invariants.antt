-- The pieces that are left make of what was made what all make of the beginning.
use Rattle.std.proofs.Common.{◌≡◌, ◌+◌, map, length}
use Rattle.bundle_syntax.specs.Item.{item_of}
use Rattle.bundle_tree_rebuild.specs.Walked.{walked}
use Rattle.bundle_tree_rebuild.proofs.rebuilder.Rebuilder.each.Given as goal

abbrev pub invariant-loop : goal.invariant-loop
invariant-loop l = (walked l.self (map item_of l.left) ≡ walked l.fn.self (map item_of l.fn.pieces)) × (length l.left + l.counter ≡ l.end)
