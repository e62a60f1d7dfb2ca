-- Each element is renamed in turn.
use Rattle.std.proofs.Common.{refl, ◌∙◌}
use Rattle.bundle_tree_listed.specs.Tree.{module_item_items}
use Rattle.bundle_tree_places.specs.Edits.{Anywhere}
use Rattle.bundle_tree_rename.specs.Parts.{each_module_item_items}
use Rattle.bundle_tree_rename.proofs.Lists.{none_so_far, visited, one_more, all_of_them}
use Rattle.bundle_tree_rename.proofs.rename.Rename.each_module_item.Goals as goal

pub loop-index-init : goal.loop-index-init
loop-index-init c = ((refl, λ k d le. refl), none_so_far Anywhere module_item_items)

pub loop-index-preserved : goal.loop-index-preserved
loop-index-preserved c = (visited _ _ _ _ c.loop-index.invariant.0, one_more Anywhere module_item_items _ _ _ (rw (c.len-index-end.ensures ∙ c.args.items.now.ok.0) at c.loop-index-test.true) c.loop-index.invariant.0 c.index_mut.ensures.value c.loop-index.invariant.1 c.in_ok-module_item.ensures)

pub returns : goal.returns
returns c = all_of_them Anywhere module_item_items each_module_item_items (λ field list. refl) (rw (c.len-index-end.ensures ∙ c.args.items.now.ok.0) at c.loop-index-test.false) c.loop-index.invariant.0 c.loop-index.invariant.1
