-- What a declaration states, by what is in it.
use Rattle.std.proofs.Common.{ap, ◌∙◌}
use Rattle.std.proofs.lemmas.Result.{on_ok_weaker}
use Rattle.bundle_syntax.specs.Item as h
use Rattle.bundle_tree_ast.specs.declared.module.ModuleItem.TheVariants as i_item
use Rattle.bundle_tree_listed.specs.Tree.{default_decl_items, module_decl_items}
use Rattle.bundle_tree_rewrite.specs.Stated.{ImportStates, ListStates, StarStates}
use Rattle.bundle_tree_rewrite.proofs.Stating.{nothing_so, declaration_so, value_so}
use Rattle.bundle_tree_rewrite.proofs.stated.state_decl.Goals as goal

pub state_default-requires : goal.state_default-requires
state_default-requires c =
    c.inside-in-ExportDefaultDecl.ensures (h.Open 0 h.ExportDefaultDecl) h.Close (default_decl_items 0 c.in-ExportDefaultDecl.decl) (c.requires.list ∙ ap (module_decl_items 0) c.in-ExportDefaultDecl.is)

pub returns-in-ImportDecl : goal.returns-in-ImportDecl
returns-in-ImportDecl c = λ work old_is. nothing_so (ap i_item.ModuleDecl c.in-ImportDecl.is) old_is ImportStates

pub returns-in-NamedExport : goal.returns-in-NamedExport
returns-in-NamedExport c = λ work old_is. nothing_so (ap i_item.ModuleDecl c.in-NamedExport.is) old_is ListStates

pub returns-in-ExportAll : goal.returns-in-ExportAll
returns-in-ExportAll c = λ work old_is. nothing_so (ap i_item.ModuleDecl c.in-ExportAll.is) old_is StarStates

pub returns-in-ExportDecl : goal.returns-in-ExportDecl
returns-in-ExportDecl c =
    on_ok_weaker c.each.result (λ new_is work old_is. declaration_so c.in-ExportDecl.is c.requires.list c.inside.ensures new_is old_is) c.each.ensures

pub returns-in-ExportDefaultExpr : goal.returns-in-ExportDefaultExpr
returns-in-ExportDefaultExpr c =
    on_ok_weaker c.state_value.result (λ new_is work old_is. value_so c.in-ExportDefaultExpr.is c.requires.list c.inside-in-ExportDefaultExpr.ensures new_is old_is) c.state_value.ensures
