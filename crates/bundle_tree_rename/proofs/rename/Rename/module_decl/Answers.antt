-- Each declaration has its parts.
use Rattle.bundle_tree_rename.proofs.Lists.{if_ok}
use Rattle.bundle_tree_rename.specs.Parts.{role_of}
use Rattle.bundle_tree_rename.proofs.ModuleRules as rule
use Rattle.bundle_tree_rename.proofs.rename.Rename.module_decl.Goals as goal

pub returns-in-ImportDecl : goal.returns-in-ImportDecl
returns-in-ImportDecl c = rw c.in-ImportDecl.is (if_ok c.each_import_specifier.result rule.decl-ImportDecl (rw c.in-ImportDecl.specifiers-is at c.each_import_specifier.ensures))

pub returns-in-ExportDecl : goal.returns-in-ExportDecl
returns-in-ExportDecl c = rw c.in-ExportDecl.is (if_ok c.decl.result rule.decl-ExportDecl (rw c.in-ExportDecl.decl-is at c.decl.ensures))

pub returns-in-NamedExport : goal.returns-in-NamedExport
returns-in-NamedExport c = rw c.in-NamedExport.is (if_ok c.each_export_specifier.result (rule.decl-NamedExport (role_of c.are_names_own-are_own.result) (rw c.in-NamedExport.src-is at c.are_names_own-are_own.ensures)) (rw c.in-NamedExport.specifiers-is at c.each_export_specifier.ensures))

pub returns-in-ExportDefaultDecl : goal.returns-in-ExportDefaultDecl
returns-in-ExportDefaultDecl c = rw c.in-ExportDefaultDecl.is (if_ok c.default_decl.result rule.decl-ExportDefaultDecl (rw c.in-ExportDefaultDecl.decl-is at c.default_decl.ensures))

pub returns-in-ExportDefaultExpr : goal.returns-in-ExportDefaultExpr
returns-in-ExportDefaultExpr c = rw c.in-ExportDefaultExpr.is (if_ok c.expr.result rule.decl-ExportDefaultExpr (rw c.in-ExportDefaultExpr.expr-is at c.expr.ensures))

pub returns-in-ExportAll : goal.returns-in-ExportAll
returns-in-ExportAll c = rw c.in-ExportAll.is rule.decl-ExportAll
