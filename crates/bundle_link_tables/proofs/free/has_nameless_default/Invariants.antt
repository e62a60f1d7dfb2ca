-- None stands before the place.
use Rattle.std.proofs.Common.{◌≡◌, drop, map}
use Rattle.bundle_syntax.specs.Item.{item_of}
use Rattle.bundle_link_tables.specs.Free.{has_nameless_default}
use Rattle.bundle_link_tables.proofs.free.has_nameless_default.Given as goal

abbrev pub invariant-loop-place : goal.invariant-loop-place
invariant-loop-place l = has_nameless_default (map item_of l.pieces) ≡ has_nameless_default (map item_of (drop l.place l.pieces))
