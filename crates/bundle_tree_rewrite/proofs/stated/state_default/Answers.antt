-- A default function or class is declared.
use Rattle.std.proofs.lemmas.Result.{on_ok_weaker}
use Rattle.bundle_tree_rewrite.proofs.Stating.{class_so, function_so}
use Rattle.bundle_tree_rewrite.proofs.stated.state_default.Goals as goal

pub returns-in-ClassExpr : goal.returns-in-ClassExpr
returns-in-ClassExpr c =
    on_ok_weaker c.state_named.result (λ new_is work old_is. class_so c.in-ClassExpr.is c.requires c.inside.ensures new_is old_is) c.state_named.ensures

pub returns-in-FnExpr : goal.returns-in-FnExpr
returns-in-FnExpr c =
    on_ok_weaker c.state_named-in-FnExpr.result (λ new_is work old_is. function_so c.in-FnExpr.is c.requires c.inside-in-FnExpr.ensures new_is old_is) c.state_named-in-FnExpr.ensures
