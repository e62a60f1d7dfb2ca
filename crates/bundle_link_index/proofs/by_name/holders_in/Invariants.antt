use Rattle.std.proofs.Common.{take}
use Rattle.indexmap.specs.IndexMap.{keys}
use Rattle.bundle_link_index.specs.Reached.{AreHeld, names_held}
use Rattle.bundle_link_index.proofs.by_name.holders_in.Given as goal

abbrev pub invariant-loop-at : goal.invariant-loop-at
invariant-loop-at l = AreHeld (take l.at-index (keys l.links.own)) (names_held l.holders)
