-- What is exported by a declaration or a default has no plain words.
use Rattle.std.proofs.Common.{sym, subst}
use Rattle.bundle_syntax.specs.Item as h
use Rattle.bundle_tree_listed.specs.Tree.{decl_items, default_decl_items, expr_items, module_decl_items}
use Rattle.bundle_scope.specs.Named.{AreWordsClear}
use Rattle.bundle_scope.proofs.WordsLemmas.{clear_inside, decl_clear, default_clear, expr_clear}
use Rattle.bundle_scope.proofs.words.clear_decl.Goals as goal

pub returns-in-ExportDecl-clause-clear : goal.returns-in-ExportDecl-clause-clear
returns-in-ExportDecl-clause-clear c = subst (λ it. AreWordsClear (module_decl_items 0 it)) (sym c.in-ExportDecl.is) (clear_inside 0 h.ExportDecl (decl_items 0 c.in-ExportDecl.decl) (decl_clear 0 c.in-ExportDecl.decl))

pub returns-in-ExportDefaultDecl-clause-clear : goal.returns-in-ExportDefaultDecl-clause-clear
returns-in-ExportDefaultDecl-clause-clear c = subst (λ it. AreWordsClear (module_decl_items 0 it)) (sym c.in-ExportDefaultDecl.is) (clear_inside 0 h.ExportDefaultDecl (default_decl_items 0 c.in-ExportDefaultDecl.decl) (default_clear 0 c.in-ExportDefaultDecl.decl))

pub returns-in-ExportDefaultExpr-clause-clear : goal.returns-in-ExportDefaultExpr-clause-clear
returns-in-ExportDefaultExpr-clause-clear c = subst (λ it. AreWordsClear (module_decl_items 0 it)) (sym c.in-ExportDefaultExpr.is) (clear_inside 0 h.ExportDefaultExpr (expr_items 0 c.in-ExportDefaultExpr.expr) (expr_clear 0 c.in-ExportDefaultExpr.expr))
