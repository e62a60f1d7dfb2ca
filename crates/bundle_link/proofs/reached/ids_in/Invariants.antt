use Rattle.std.proofs.Common.{◌≡◌, take}
use Rattle.bundle_rules.specs.Nodes.{numbers_once}
use Rattle.bundle_link.proofs.reached.ids_in.Given as goal

abbrev pub invariant-loop-id : goal.invariant-loop-id
invariant-loop-id l = l.ids.keys ≡ numbers_once (take l.id-index l.list)
