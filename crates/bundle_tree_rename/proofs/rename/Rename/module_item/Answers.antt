-- An item is what it holds.
use Rattle.bundle_tree_rename.proofs.Lists.{if_ok}
use Rattle.bundle_tree_rename.proofs.ModuleRules as rule
use Rattle.bundle_tree_rename.proofs.rename.Rename.module_item.Goals as goal

pub returns-in-ModuleDecl : goal.returns-in-ModuleDecl
returns-in-ModuleDecl c = rw c.in-ModuleDecl.is (if_ok c.module_decl.result rule.item-ModuleDecl (rw c.in-ModuleDecl.it-is at c.module_decl.ensures))

pub returns-in-Stmt : goal.returns-in-Stmt
returns-in-Stmt c = rw c.in-Stmt.is (if_ok c.stmt.result rule.item-Stmt (rw c.in-Stmt.it-is at c.stmt.ensures))
