-- One declarator.
use Rattle.std.proofs.Common.{◌∙◌, ap}
use Rattle.std.proofs.lemmas.Result.{IfOk-weaker}
use Rattle.bundle_syntax.specs.declared.kind.VarDeclKind.TheVariants.{Const}
use Rattle.bundle_syntax.specs.declared.piece.Role.TheVariants.{Binding}
use Rattle.bundle_syntax.specs.Item as h
use Rattle.bundle_tree_listed.specs.Tree.{expr_items, node}
use Rattle.bundle_merge_injected.specs.Listed.{declarator}
use Rattle.bundle_merge_injected.proofs.declaration.constant.Goals as goal

pub returns : goal.returns
returns c =
    IfOk-weaker c.declared.result _ _ (λ made is. is ∙ ap (node 0 (h.VarDecl Const c.args.notes)) (c.declarator.ensures ∙ ap (λ name. declarator name (expr_items 1 c.args.value)) (c.in_ok-name.ensures Binding 0))) c.declared.ensures
