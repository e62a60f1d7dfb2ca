use Rattle.std.proofs.Common.{◌≡◌, map, take}
use Rattle.std.specs.List.{filter}
use Rattle.bundle_order.specs.Providing.{binding_and_item, known_of, provides}
use Rattle.bundle_order.proofs.providers.providing.Given as goal

abbrev pub invariant-loop-one : goal.invariant-loop-one
invariant-loop-one l = l.pairs.items ≡ map binding_and_item (filter (λ one. provides l.owners (known_of l.firsts one) (known_of l.fillers one) one) (take l.one-index l.seen))
