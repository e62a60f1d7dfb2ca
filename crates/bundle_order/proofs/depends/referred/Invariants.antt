use Rattle.std.proofs.Common.{◌≡◌, map, take}
use Rattle.std.specs.List.{filter}
use Rattle.bundle_order.specs.Providing.{item_and_binding, refers}
use Rattle.bundle_order.proofs.depends.referred.Given as goal

abbrev pub invariant-loop-one : goal.invariant-loop-one
invariant-loop-one l = l.pairs.items ≡ map item_and_binding (filter refers (take l.one-index l.seen))
