-- What is declared first is so among the elements that are left.
use Rattle.std.proofs.Common.{◌≡◌, drop, map}
use Rattle.bundle_syntax.specs.Item.{item_of}
use Rattle.bundle_merge.specs.Read.{first_declared}
use Rattle.bundle_merge.proofs.read.name_in.Given as goal

abbrev pub invariant-loop-piece : goal.invariant-loop-piece
invariant-loop-piece l =
    first_declared (map item_of l.list) ≡ first_declared (map item_of (drop l.piece-index l.list))
