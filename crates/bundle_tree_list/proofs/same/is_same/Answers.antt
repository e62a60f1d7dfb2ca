-- Item by item.
use Rattle.bundle_tree_list.proofs.Modules.{same_items}
use Rattle.bundle_tree_list.proofs.Part.{told}
use Rattle.bundle_tree_list.proofs.same.is_same.Goals as goal

pub returns : goal.returns
returns c = told c.eq.ensures (same_items 0 c.args.items.now c.args.other.now).same
