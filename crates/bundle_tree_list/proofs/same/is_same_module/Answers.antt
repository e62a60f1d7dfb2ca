-- Their items are compared.
use Rattle.bundle_tree_list.proofs.Modules.{same_module}
use Rattle.bundle_tree_list.proofs.Part.{told}
use Rattle.bundle_tree_list.proofs.same.is_same_module.Goals as goal

pub returns : goal.returns
returns c = told c.eq.ensures (same_module 0 c.args.tree.now c.args.other.now).same
