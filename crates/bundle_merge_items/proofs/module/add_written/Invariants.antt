-- What is written already is added as far as it was passed.
use Rattle.std.proofs.Common.{◌≡◌, ◌++◌, take}
use Rattle.std.specs.Prelude.{flat_map}
use Rattle.bundle_merge_items.specs.Added.{copied_item, module_item_lists}
use Rattle.bundle_merge_items.proofs.module.add_written.Given as goal

abbrev pub invariant-loop-item : goal.invariant-loop-item
invariant-loop-item l =
    module_item_lists l.items
    ≡ module_item_lists l.initial.items ++ flat_map copied_item (take l.item-index l.item-items)
