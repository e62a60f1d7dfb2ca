use Rattle.std.proofs.Common.{◌≡◌, filter_map, take}
use Rattle.bundle_link.specs.Leads.{module_place}
use Rattle.bundle_link.proofs.linked.places_of.Given as goal

abbrev pub invariant-loop-id : goal.invariant-loop-id
invariant-loop-id l = l.places.items ≡ filter_map (module_place l.ids.keys) (take l.id-index l.list)
