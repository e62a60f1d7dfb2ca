use Rattle.std.proofs.Common.{◌≡◌, take}
use Rattle.std.specs.List.{filter}
use Rattle.bundle_order.specs.Providing.{fills_after, known_of}
use Rattle.bundle_order.proofs.providers.filling.Given as goal

abbrev pub invariant-loop-one : goal.invariant-loop-one
invariant-loop-one l = l.filling.items ≡ filter (λ one. fills_after l.owners (known_of l.firsts one) one) (take l.one-index l.seen)
