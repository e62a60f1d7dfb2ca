-- What is so of the lists of syntax trees, since they are fit.
use Rattle.std.proofs.Common.{ℕ, List, refl}
use Rattle.std.specs.List.{flat_map}
use Rattle.bundle_tree_ast.specs.declared.module.ModuleItem.{ModuleItem}
use Rattle.bundle_tree_ast.specs.declared.module.DefaultDecl.{DefaultDecl}
use Rattle.bundle_tree_ast.specs.declared.stmt.Stmt.{Stmt}
use Rattle.bundle_tree_ast.specs.declared.decl.Decl.{Decl}
use Rattle.bundle_tree_ast.specs.declared.expr.Expr.{Expr}
use Rattle.bundle_rules.specs.Places.{start}
use Rattle.bundle_tree_listed.specs.Tree.{stmt_items, decl_items, expr_items, default_decl_items, module_item_items}
use Rattle.bundle_scope_names.specs.fit.Words.{HasNoWords}
use Rattle.bundle_scope_names.proofs.naming_rule.Rebuilt.{ArePlain}
use Rattle.bundle_scope_names.proofs.naming_rule.Clash.{HasPlainKeys}
use Rattle.bundle_scope_names.proofs.fit.Rows.{last, last_each, are_plain, no_words}
use Rattle.bundle_scope_names.proofs.fit.Keys.{no_keys}
use Rattle.bundle_scope_names.proofs.grown.Grown.{stmt_fit, decl_fit, expr_fit, default_fit, items_fit}

-- the items of a module
pub items_plain : (items : List ModuleItem) → ArePlain (flat_map (module_item_items 0) items)
items_plain items = are_plain (last_each (items_fit 0 items))

pub items_keyless : (items : List ModuleItem) → HasPlainKeys (flat_map (module_item_items 0) items)
items_keyless items = no_keys (last_each (items_fit 0 items)) start refl

-- statements and what stands in them
pub stmt_wordless : (field : ℕ) (it : Stmt) → HasNoWords (stmt_items field it)
stmt_wordless field it = no_words (last (stmt_fit field it)) refl

pub decl_wordless : (field : ℕ) (it : Decl) → HasNoWords (decl_items field it)
decl_wordless field it = no_words (last (decl_fit field it)) refl

pub expr_wordless : (field : ℕ) (it : Expr) → HasNoWords (expr_items field it)
expr_wordless field it = no_words (last (expr_fit field it)) refl

pub default_wordless : (field : ℕ) (it : DefaultDecl) → HasNoWords (default_decl_items field it)
default_wordless field it = no_words (last (default_fit field it)) refl
