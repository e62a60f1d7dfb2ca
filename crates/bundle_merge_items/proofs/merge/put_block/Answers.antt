-- The items of the modules and of the objects, in the order that was found.
use Rattle.std.proofs.Common.{◌≡◌, List, subst}
use Rattle.std.specs.Prelude.{flat_map, length}
use Rattle.bundle_merge_items.specs.Added.{module_item_lists}
use Rattle.bundle_merge_items.specs.Blocks.{AddsOwned, AreBundleModules, IsBlockPlaced}
use Rattle.bundle_merge_theory.specs.planned.Decided.{Decided, module_plan}
use Rattle.bundle_order.specs.Owned.{AreTogether}
use Rattle.bundle_merge_items.proofs.Behind.{block-put}
use Rattle.bundle_merge_items.proofs.merge.put_block.Goals as goal

pub returns : goal.returns
returns c = λ once there empty.
    let bundle = c.args.bundle.now in
    let names = c.args.names.now in
    let block = c.args.block.now in
    let its = c.add_modules.new.its in
    let mid = c.add_objects.new.its in
    let owners = c.add_modules.new.owners.items in
    let plan : Decided → List _ = λ d. flat_map (module_plan d) block.places.items in
    block-put bundle names block c.args.its.now its mid c.sort_cycle.new.its owners
    c.add_objects.new.owners.items once there empty
    (subst (λ l. AreBundleModules bundle block.places.items → AddsOwned bundle names plan c.args.its.now its l owners)
    c.new-owners.ensures.items c.in_ok-add_modules.ensures)
    c.in_ok-add_objects.ensures
    (subst (λ l. length l ≡ length mid.body.items → AreTogether l →
    IsBlockPlaced block.is_cycle (module_item_lists mid) l (module_item_lists c.sort_cycle.new.its))
    c.deref.ensures.value c.in_ok-sort_cycle.ensures)
