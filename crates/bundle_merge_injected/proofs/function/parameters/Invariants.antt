-- The parameters so far are those of the names passed.
use Rattle.std.proofs.Common.{◌≡◌, flat_map, map, take}
use Rattle.bundle_tree_listed.specs.Tree.{param_items}
use Rattle.bundle_tree_places.specs.Marks.{ident_of}
use Rattle.bundle_merge_injected.specs.Listed.{parameter}
use Rattle.bundle_merge_injected.proofs.function.parameters.Given as goal

abbrev pub invariant-loop-name : goal.invariant-loop-name
invariant-loop-name l = flat_map (param_items 0) l.params.items ≡ flat_map parameter (map ident_of (take l.name-index l.names))
