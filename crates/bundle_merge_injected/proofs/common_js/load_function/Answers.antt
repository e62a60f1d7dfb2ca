-- One declarator, whose value is a call of the helper with one function.
use Rattle.std.proofs.Common.{◌∙◌, ap}
use Rattle.std.proofs.lemmas.Result.{IfOk-weaker}
use Rattle.bundle_syntax.specs.declared.kind.VarDeclKind.TheVariants.{Var}
use Rattle.bundle_syntax.specs.declared.piece.Role.TheVariants.{Binding}
use Rattle.bundle_syntax.specs.Item as h
use Rattle.bundle_tree_listed.specs.Tree.{expr_items, node}
use Rattle.bundle_rules.specs.Statements.{no_notes}
use Rattle.bundle_tree_places.specs.Marks.{ident_of}
use Rattle.bundle_merge_injected.specs.Listed.{declarator, pattern_of}
use Rattle.bundle_merge_injected.proofs.common_js.load_function.Goals as goal

pub returns : goal.returns
returns c =
    IfOk-weaker c.variable.result _ _ (λ made is. is ∙ ap (node 0 (h.VarDecl Var no_notes)) (c.declarator.ensures
    ∙ ap (λ name. declarator name (expr_items 1 c.in_ok-value.value)) (c.in_ok-name.ensures Binding 0)
    ∙ ap (declarator (pattern_of 0 Binding (ident_of c.args.names.load))) (c.in_ok-value.ensures 1))) c.variable.ensures
