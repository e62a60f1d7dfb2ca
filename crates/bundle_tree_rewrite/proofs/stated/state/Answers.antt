-- A statement states itself, if it is not empty.
use Rattle.std.proofs.Common.{ap, ◌∙◌}
use Rattle.std.proofs.lemmas.Result.{on_ok_weaker}
use Rattle.bundle_tree_ast.specs.declared.module.ModuleItem.TheVariants as i_item
use Rattle.bundle_tree_rewrite.specs.Stated.{EmptyStates}
use Rattle.bundle_tree_rewrite.proofs.Stating.{nothing_so, statement_so}
use Rattle.bundle_tree_rewrite.proofs.stated.state.Goals as goal

pub returns-in-EmptyStmt : goal.returns-in-EmptyStmt
returns-in-EmptyStmt c = λ work old_is. nothing_so (c.in-Stmt.is ∙ ap i_item.Stmt c.in-EmptyStmt.is) old_is EmptyStates

pub returns-in_default : goal.returns-in_default
returns-in_default c =
    on_ok_weaker c.each.result (λ new_is work old_is. statement_so c.in-Stmt.is c.in_default.not-EmptyStmt c.requires.list new_is old_is) c.each.ensures
