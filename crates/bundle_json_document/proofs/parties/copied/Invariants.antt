-- The copies of the properties that were passed.
use Rattle.std.proofs.Common.{◌≡◌, take}
use Rattle.std.specs.List.{flat_map}
use Rattle.bundle_tree_listed.specs.Tree.{key_value_prop_items}
use Rattle.bundle_json_document.proofs.parties.copied.Given as goal

abbrev pub invariant-loop-property : goal.invariant-loop-property
invariant-loop-property l = flat_map (key_value_prop_items 0) l.copy.items ≡ flat_map (key_value_prop_items 0) (take l.property-index l.properties)
