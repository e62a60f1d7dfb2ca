-- A call of the helper with one function.
use Rattle.std.proofs.Common.{◌≡◌, ◌∙◌, ℕ, ap}
use Rattle.std.proofs.lemmas.Result.{IfOk-weaker}
use Rattle.bundle_syntax.specs.declared.piece.Role.TheVariants.{Reference}
use Rattle.bundle_tree_listed.specs.Tree.{each_expr_or_spread_items, each_stmt_items, expr_items}
use Rattle.bundle_tree_places.specs.Marks.{ident_of}
use Rattle.bundle_merge_injected.specs.Listed.{call_in, load_argument, named}
use Rattle.bundle_merge_injected.proofs.common_js.load_value.Goals as goal

pub returns : goal.returns
returns c =
    IfOk-weaker c.call.result (λ made. (field : ℕ) → expr_items field made ≡ call_in field (expr_items 0 c.in_ok-callee.callee) (each_expr_or_spread_items 1 c.in_ok-args.args))
    (λ made. (field : ℕ) → expr_items field made ≡ call_in field (named 0 Reference (ident_of c.args.names.helper)) (load_argument (ident_of c.args.names.module_object) (ident_of c.args.names.exports) (each_stmt_items 0 c.args.stmts)))
    (λ made is. λ field. is field
    ∙ ap (λ callee. call_in field callee (each_expr_or_spread_items 1 c.in_ok-args.args)) (c.in_ok-callee.ensures 0)
    ∙ ap (call_in field (named 0 Reference (ident_of c.args.names.helper))) c.in_ok-args.ensures) c.call.ensures
