use Rattle.std.proofs.Common.{◌≡◌, map, take}
use Rattle.std.specs.List.{filter}
use Rattle.bundle_order_sort.specs.Items.{number_behind, refers_within}
use Rattle.bundle_order_sort.proofs.needs.lists_of.Given as goal

abbrev pub invariant-loop-reference : goal.invariant-loop-reference
invariant-loop-reference l = l.ends.items ≡ map (number_behind l.before) (filter (refers_within l.count) (take l.reference-index l.references))
