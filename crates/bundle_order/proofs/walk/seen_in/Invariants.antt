-- Those of the items passed are there.
use Rattle.std.proofs.Common.{◌≡◌, map, take}
use Rattle.bundle_syntax.specs.Item.{item_of}
use Rattle.bundle_order.specs.Seen.{seen_from}
use Rattle.bundle_order.specs.Cut.{cut_items}
use Rattle.bundle_order.specs.Numbered.{numbered_row}
use Rattle.bundle_order.specs.Told.{told_at}
use Rattle.bundle_order.proofs.walk.seen_in.Given as goal

abbrev pub invariant-loop-number : goal.invariant-loop-number
invariant-loop-number l = l.seen.items ≡ seen_from 0 (map (numbered_row (told_at (map item_of l.pieces) l.denotations l.top)) (cut_items (map item_of l.pieces) (take l.number l.items)))
