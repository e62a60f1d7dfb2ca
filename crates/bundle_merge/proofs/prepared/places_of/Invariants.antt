-- The modules that were passed, each once.
use Rattle.std.proofs.Common.{◌≡◌, take}
use Rattle.bundle_rules.specs.Nodes.{numbers_once}
use Rattle.bundle_merge.proofs.prepared.places_of.Given as goal

abbrev pub invariant-loop-id : goal.invariant-loop-id
invariant-loop-id l = l.places.keys ≡ numbers_once (take l.id-index l.list)
