-- The elements so far are listed.
use Rattle.std.proofs.Common.{◌≡◌, ◌++◌, take}
use Rattle.std.specs.List.{flat_map}
use Rattle.bundle_tree_listed.specs.Tree.{export_specifier_items}
use Rattle.bundle_tree_list.proofs.walk.Walk.each_export_specifier.Given as goal

abbrev pub invariant-loop-element : goal.invariant-loop-element
invariant-loop-element l = l.self ≡ l.initial.self ++ flat_map (export_specifier_items l.role l.field) (take l.element-index l.element-items)
