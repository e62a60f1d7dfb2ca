-- What of a module tells how many items it makes.
use Rattle.std.specs.Prelude.{ℕ, Bool, true, false, List, slice_get, unwrap_or}
use Rattle.bundle_tree_ast.specs.declared.module.ModuleItem.{ModuleItem}
use Rattle.bundle_tree_ast.specs.declared.module.ModuleItem.TheVariants as i_item
use Rattle.bundle_tree_ast.specs.declared.module.ModuleDecl.{ModuleDecl}
use Rattle.bundle_tree_ast.specs.declared.module.ModuleDecl.TheVariants as i_decl
use Rattle.bundle_tree_ast.specs.declared.stmt.Stmt as v_stmt
use Rattle.bundle_merge_causes.specs.declared.shape.ModuleShape.{ModuleShape}

-- whether an import or export declares something by itself (ECMA-262, 16.2.3.7)
abbrev pub declares : ModuleDecl → Bool
declares (i_decl.ImportDecl specifiers src meta) = false
declares (i_decl.NamedExport specifiers src meta) = false
declares (i_decl.ExportAll src meta) = false
declares (i_decl.ExportDecl decl) = true
declares (i_decl.ExportDefaultDecl decl) = true
declares (i_decl.ExportDefaultExpr expr) = true

-- whether a top item states something
abbrev pub states : ModuleItem → Bool
states (i_item.Stmt v_stmt.EmptyStmt) = false
states (i_item.Stmt _) = true
states (i_item.ModuleDecl decl) = declares decl

-- the shape of module k
abbrev pub shape_at : List ModuleShape → ℕ → ModuleShape
shape_at shapes k =
    unwrap_or (slice_get shapes k) (record { has_import_meta = false; statements = 0 })

-- which modules have an `import.meta`
abbrev pub meta_in : List ModuleShape → ℕ → Bool
meta_in shapes k = (shape_at shapes k).has_import_meta

-- how many statements of its own each module has
abbrev pub count_in : List ModuleShape → ℕ → ℕ
count_in shapes k = (shape_at shapes k).statements
