use Rattle.std.proofs.Common.{◌≡◌, take}
use Rattle.bundle_link_targets.proofs.taken.names_from.Given as goal

abbrev pub invariant-loop-name : goal.invariant-loop-name
invariant-loop-name l = l.sorted.items ≡ take l.name-index l.own
