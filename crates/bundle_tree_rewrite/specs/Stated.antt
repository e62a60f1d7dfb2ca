-- What an item of a module states in a bundle (ECMA-262, 16.2.3.7), by its list.
use Rattle.std.specs.Prelude.{◌≡◌, ◌≢◌, List, [], ◌++◌, Option, Some, None}
use Rattle.bundle_syntax.specs.declared.ident.Ident as v_ident
use Rattle.bundle_syntax.specs.declared.kind.VarDeclKind.TheVariants as k
use Rattle.bundle_tree_ast.specs.declared.module.ModuleItem.{ModuleItem}
use Rattle.bundle_tree_ast.specs.declared.module.ModuleItem.TheVariants as i_item
use Rattle.bundle_tree_ast.specs.declared.module.ModuleDecl.TheVariants as i_decl
use Rattle.bundle_tree_ast.specs.declared.module.DefaultDecl.TheVariants as i_default
use Rattle.bundle_tree_ast.specs.declared.stmt.Stmt as v_stmt
use Rattle.bundle_tree_ast.specs.declared.decl.Decl as v_decl
use Rattle.bundle_tree_ast.specs.declared.expr.Expr as v_expr
use Rattle.bundle_tree_ast.specs.declared.class.Function as v_function
use Rattle.bundle_tree_ast.specs.declared.class.Class as v_class
use Rattle.bundle_syntax.specs.declared.piece.Role.TheVariants as r
use Rattle.bundle_syntax.specs.Item as h
use Rattle.bundle_syntax.specs.Item.{Item}
use Rattle.bundle_tree_listed.specs.Tree.{node, ident_items, expr_items, stmt_items, decl_items, class_items, function_items}
use Rattle.bundle_rules.specs.Idents.{Ident}
use Rattle.bundle_tree_places.specs.Edits.{Anywhere, InObject}
use Rattle.bundle_tree_rebuild.specs.Becomes.{Becomes, Reworked, named, no_notes}
use Rattle.bundle_tree_rebuild.specs.Work.{Work}

-- a declaration of a constant
abbrev pub constant : Ident → (value : List Item) → List Item
constant name value =
    node 0 (h.VarDecl k.Const no_notes)
    (node 1 h.VarDeclarator (node 0 h.BindingIdent (named 0 name r.Binding) ++ value))

-- the name by which a default function or class is declared, with the work that is left behind it:
-- its own name, or else that of the default
pub data DeclaresName (work : Work) (default : Ident) :
    Option v_ident.Ident → List Item → Work → Type 0 where
  Own : {ident : v_ident.Ident} {made : List Item} {rest : Work} →
      Becomes Anywhere work (ident_items r.Binding 0 ident) made rest →
      DeclaresName work default (Some ident) made rest
  OfDefault : DeclaresName work default None (named 0 default r.Binding) work

-- properties become those that stand in this object literal, where with this work a name would be a
-- shorthand
pub record ReworkedObject (work : Work) (properties made : List Item) : Type 0 where
  pub rest : Work
  pub inside : List Item
  pub is : made ≡ node 0 h.ObjectLit inside
  pub by : Becomes InObject work properties inside rest

-- What an item states with this work of its occurrences, where `default` is the name of a default
-- export that has none of its own.
pub data States (work : Work) (default : Ident) : ModuleItem → List Item → Type 0 where
  -- imports, export lists and stars state nothing, nor does an empty statement
  ImportStates : {specifiers src meta : _} →
      States work default (i_item.ModuleDecl (i_decl.ImportDecl specifiers src meta)) []
  ListStates : {specifiers src meta : _} →
      States work default (i_item.ModuleDecl (i_decl.NamedExport specifiers src meta)) []
  StarStates : {src meta : _} →
      States work default (i_item.ModuleDecl (i_decl.ExportAll src meta)) []
  EmptyStates : States work default (i_item.Stmt v_stmt.EmptyStmt) []
  -- another statement states itself
  StatementStates : {stmt : v_stmt.Stmt} {made : List Item} →
      stmt ≢ v_stmt.EmptyStmt →
      Reworked work (stmt_items 0 stmt) made →
      States work default (i_item.Stmt stmt) made
  -- an exported declaration is declared
  DeclarationStates : {decl : v_decl.Decl} {made : List Item} →
      Reworked work (decl_items 0 decl) made →
      States work default (i_item.ModuleDecl (i_decl.ExportDecl decl)) made
  -- the value of a default expression is declared by the name of the default
  ValueStates : {expr : v_expr.Expr} {value : List Item} →
      Reworked work (expr_items 1 expr) value →
      States work default (i_item.ModuleDecl (i_decl.ExportDefaultExpr expr))
      (constant default value)
  -- a default function or class is declared
  FunctionStates :
      {ident : Option v_ident.Ident} {function : v_function.Function} {name made : List Item}
      {between rest : Work} →
      DeclaresName work default ident name between →
      Becomes Anywhere between (function_items 1 function) made rest →
      States work default
      (i_item.ModuleDecl (i_decl.ExportDefaultDecl (i_default.FnExpr ident function)))
      (node 0 h.FnDecl (name ++ made))
  ClassStates :
      {ident : Option v_ident.Ident} {«class» : v_class.Class} {name made : List Item}
      {between rest : Work} →
      DeclaresName work default ident name between →
      Becomes Anywhere between (class_items 1 «class») made rest →
      States work default
      (i_item.ModuleDecl (i_decl.ExportDefaultDecl (i_default.ClassExpr ident «class»)))
      (node 0 h.ClassDecl (name ++ made))
