use Rattle.std.proofs.Common.{◌≡◌, take}
use Rattle.std.specs.List.{filter}
use Rattle.bundle_order.specs.Providing.{declares_binding}
use Rattle.bundle_order.proofs.providers.declaring.Given as goal

abbrev pub invariant-loop-one : goal.invariant-loop-one
invariant-loop-one l = l.declaring.items ≡ filter declares_binding (take l.one-index l.seen)
