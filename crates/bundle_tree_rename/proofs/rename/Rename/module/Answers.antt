-- A module has its items.
use Rattle.bundle_tree_rename.proofs.Lists.{if_ok}
use Rattle.bundle_tree_rename.proofs.ModuleRules as rule
use Rattle.bundle_tree_rename.proofs.rename.Rename.module.Goals as goal

pub returns : goal.returns
returns c = if_ok c.each_module_item.result rule.module_renamed c.each_module_item.ensures
