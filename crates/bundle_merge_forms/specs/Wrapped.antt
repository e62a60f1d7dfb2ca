-- What the call of one function holds: the statements of a module, and what its list of exports
-- gives.
use Rattle.std.specs.Prelude.{◌≡◌, List, [], ◌∷◌, ◌++◌, Option, Some, None, flat_map, map, string_bytes}
use Rattle.std.specs.Global.{Global}
use Rattle.std.specs.List.{All}
use Rattle.std.specs.declared.vec.Vec.{Vec}
use Rattle.bundle_syntax.specs.declared.ident.Ident as v_ident
use Rattle.bundle_syntax.specs.declared.kind.ExportMetadata.{ExportMetadata}
use Rattle.bundle_syntax.specs.declared.specifier.ExportSpecifier.{ExportSpecifier}
use Rattle.bundle_syntax.specs.declared.specifier.ExportSpecifier.TheVariants.{ExportNamedSpecifier}
use Rattle.bundle_syntax.specs.declared.specifier.ModuleExportName.{ModuleExportName}
use Rattle.bundle_syntax.specs.declared.specifier.ModuleExportName.TheVariants as export_name
use Rattle.bundle_tree_ast.specs.declared.module.ModuleItem.{ModuleItem}
use Rattle.bundle_tree_ast.specs.declared.module.ModuleItem.TheVariants as item
use Rattle.bundle_tree_ast.specs.declared.module.ModuleDecl.TheVariants.{NamedExport}
use Rattle.bundle_tree_ast.specs.declared.stmt.Stmt.{Stmt}
use Rattle.bundle_syntax.specs.Item.{Item}
use Rattle.bundle_tree_listed.specs.Tree.{stmt_items}
use Rattle.bundle_rules.specs.Nodes.{Text}
use Rattle.bundle_rules.specs.Idents.{Ident}

-- the list of an item that is a statement
abbrev pub statement_items : ModuleItem → List Item
statement_items (item.Stmt it) = stmt_items 0 it
statement_items (item.ModuleDecl it) = []

-- the specifiers of an item that is a list of exports without `from`
abbrev pub specifiers_of : ModuleItem → List ExportSpecifier
specifiers_of (item.ModuleDecl (NamedExport specifiers None meta)) = specifiers.items
specifiers_of _ = []

-- the name under which an identifier is exported: its own where no other is written
abbrev pub exported_under : Option ModuleExportName → v_ident.Ident → Text
exported_under None l = string_bytes l.sym
exported_under (Some (export_name.Ident name)) l = string_bytes name.sym
exported_under (Some (export_name.Str name)) l = string_bytes name.value

-- what a specifier of an identifier gives: the name, with the identifier
abbrev pub given_by : ExportSpecifier → List (Text × Ident)
given_by (ExportNamedSpecifier (export_name.Ident l) name) =
    (exported_under name l, (string_bytes l.sym, l.ctxt)) ∷ []
given_by _ = []

-- what a list of exports gives
abbrev pub exported_in : ModuleItem → List (Text × Ident)
exported_in it = flat_map given_by (specifiers_of it)

-- `l as n`, or `l`
pub record IsOfIdent (specifier : ExportSpecifier) : Type 0 where
  pub ident : v_ident.Ident
  pub name : Option ModuleExportName
  pub is : specifier ≡ ExportNamedSpecifier (export_name.Ident ident) name

-- no item, or one list of exports without `from`, of identifiers
pub data EndsInExports : List ModuleItem → Type 0 where
  nothing : EndsInExports []
  exports : (specifiers : Vec ExportSpecifier Global) (meta : ExportMetadata) →
      All IsOfIdent specifiers.items →
      EndsInExports (item.ModuleDecl (NamedExport specifiers None meta) ∷ [])

-- statements, and behind them perhaps a list of exports of the module's own names
pub record CanBeWrapped (items : List ModuleItem) : Type 0 where
  pub stmts : List Stmt
  pub last : List ModuleItem
  pub is : items ≡ map item.Stmt stmts ++ last
  pub ends : EndsInExports last
