-- The imports of the externals that were passed are added.
use Rattle.std.proofs.Common.{◌≡◌, ◌++◌, take}
use Rattle.std.specs.Prelude.{flat_map}
use Rattle.bundle_merge_items.specs.Added.{import_declarations_of, module_item_lists}
use Rattle.bundle_merge_items.proofs.merge.add_externals.Given as goal

abbrev pub invariant-loop-external : goal.invariant-loop-external
invariant-loop-external l =
    module_item_lists l.items
    ≡ module_item_lists l.initial.items
    ++ flat_map (import_declarations_of l.names) (take l.external-index l.external-items)
