-- What was copied, with the items that are left, is all of each module's.
use Rattle.std.proofs.Common.{◌≡◌, length, map}
use Rattle.bundle_link_index.specs.Numbered.{HasNoDoubles}
use Rattle.bundle_rules.specs.Parts.{in_order}
use Rattle.bundle_merge_items.specs.Added.{module_item_lists}
use Rattle.bundle_merge_modules.specs.Held.{trees_of}
use Rattle.bundle_merge.specs.Prepared.{items_of_each}
use Rattle.bundle_merge.proofs.Copied.{with_rest}
use Rattle.bundle_merge.proofs.prepared.copies_of.Given as goal

abbrev pub invariant-loop-id : goal.invariant-loop-id
invariant-loop-id l =
    (length (map module_item_lists l.copies.items) ≡ length l.places.keys)
    × (HasNoDoubles l.places.keys →
    with_rest l.places.keys (map module_item_lists l.copies.items) (trees_of l.id-iterator)
    ≡ items_of_each (in_order l.prepared) l.places.keys)
