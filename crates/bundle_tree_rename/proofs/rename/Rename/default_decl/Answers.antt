-- A class or a function has its parts.
use Rattle.bundle_tree_rename.proofs.Lists.{if_ok}
use Rattle.bundle_tree_rename.proofs.ModuleRules as rule
use Rattle.bundle_tree_rename.proofs.rename.Rename.default_decl.Goals as goal

pub returns-in_ok-option_ident-in-ClassExpr : goal.returns-in_ok-option_ident-in-ClassExpr
returns-in_ok-option_ident-in-ClassExpr c = rw c.in-ClassExpr.is (if_ok c.class.result (rule.default-ClassExpr (rw c.in-ClassExpr.ident-is at c.in_ok-option_ident-in-ClassExpr.ensures)) (rw c.in-ClassExpr.class-is at c.class.ensures))

pub returns-in_ok-option_ident-in-FnExpr : goal.returns-in_ok-option_ident-in-FnExpr
returns-in_ok-option_ident-in-FnExpr c = rw c.in-FnExpr.is (if_ok c.function.result (rule.default-FnExpr (rw c.in-FnExpr.ident-is at c.in_ok-option_ident-in-FnExpr.ensures)) (rw c.in-FnExpr.function-is at c.function.ensures))
