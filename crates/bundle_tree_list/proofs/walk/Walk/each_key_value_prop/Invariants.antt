-- The properties so far are listed.
use Rattle.std.proofs.Common.{◌≡◌, ◌++◌, take}
use Rattle.std.specs.List.{flat_map}
use Rattle.bundle_tree_listed.specs.Tree.{key_value_prop_items}
use Rattle.bundle_tree_list.proofs.walk.Walk.each_key_value_prop.Given as goal

abbrev pub invariant-loop-property : goal.invariant-loop-property
invariant-loop-property l = l.self ≡ l.initial.self ++ flat_map (key_value_prop_items l.field) (take l.property-index l.properties)
