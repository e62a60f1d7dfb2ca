-- The statements so far are those of the modules passed.
use Rattle.std.proofs.Common.{◌≡◌, ◌++◌, map, take}
use Rattle.bundle_merge_items.specs.Added as added
use Rattle.bundle_merge_items.specs.Added.{module_item_lists}
use Rattle.bundle_merge_items.proofs.module.add_loads.Given as goal

abbrev pub invariant-loop-loaded : goal.invariant-loop-loaded
invariant-loop-loaded l =
    module_item_lists l.items
    ≡ module_item_lists l.fn.items ++ map (added.load_item_of l.names l.which) (take l.loaded-index l.loads)
