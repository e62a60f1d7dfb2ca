-- The object that is written already is copied as it is.
use Rattle.std.proofs.Common.{sym, ap, ◌∙◌, ◌++◌, ◌∷◌, [], append-nil}
use Rattle.std.specs.Prelude.{flat_map}
use Rattle.bundle_tree_listed.specs.Tree.{module_item_items}
use Rattle.bundle_merge_items.specs.Added.{copied_item, module_item_lists}
use Rattle.bundle_merge_items.proofs.Behind.{behind-all, behind-next}
use Rattle.bundle_merge_items.proofs.Copies.{rebuilt-none}
use Rattle.bundle_merge_items.proofs.module.add_written.Goals as goal

pub loop-item-init : goal.loop-item-init
loop-item-init c = sym (append-nil (module_item_lists c.args.items.now))

pub loop-item-preserved : goal.loop-item-preserved
loop-item-preserved c =
    behind-next copied_item c.written_items-item-items.result.now
    c.loop-item.item-index c.item-item.result c.args.items.now c.loop-item.items
    c.add_item.new.items c.loop-item-test.true c.item-item.is c.loop-item.invariant
    (c.in_ok-add_item.ensures
    ∙ ap (λ copy. module_item_lists c.loop-item.items ++ copy ∷ [])
    (c.in_ok-rebuild_item.ensures ∙ rebuilt-none (module_item_items 0 c.item-item.result)))

pub returns : goal.returns
returns c =
    behind-all copied_item c.written_items-item-items.result.now c.loop-item.item-index
    c.args.items.now c.loop-item.items c.loop-item-test.false c.loop-item.invariant
    ∙ ap (λ its. module_item_lists c.args.items.now ++ flat_map copied_item its)
    c.written_items-item-items.ensures
