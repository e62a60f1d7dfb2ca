-- What a module has to be so that it can be one function's call: statements, and perhaps a list of
-- exports behind them.
use Rattle.std.specs.Prelude.{◌≡◌, ℕ, zero, suc, Bool, true, false, List, [], ◌∷◌, ◌++◌, Option, Some, None, flat_map, is_some}
use Rattle.bundle_syntax.specs.declared.kind.ExportMetadata.{ExportMetadata}
use Rattle.bundle_syntax.specs.declared.piece.Role.{Role}
use Rattle.bundle_syntax.specs.declared.piece.Role.TheVariants.{Reference, Word as IsWord}
use Rattle.bundle_syntax.specs.Item as h
use Rattle.bundle_syntax.specs.Item.{Item, Head}
use Rattle.bundle_rules.specs.Scopes.{Es}
use Rattle.bundle_rules.specs.Declarations.{Reading, Declared, declared}
use Rattle.bundle_rules.specs.Homes.{from_taker, nearest}
use Rattle.bundle_rules.specs.Nodes.{Text}
use Rattle.bundle_rules.specs.Statements.{Element, taken, written, own_statements}
use Rattle.bundle_rules.specs.Program.{Program, tree_of, IsReached}
use Rattle.bundle_rules.specs.Forms.{is_export_list}

-- what holds of each element
pub data Every {A : Type 0} (P : A → Type 0) : List A → Type 0 where
  none : Every P []
  more : {x : A} {xs : List A} → P x → Every P xs → Every P (x ∷ xs)

-- Statements.

-- whether such a node is a module, or an import, an export or a part of one
abbrev pub is_module_head : Head → Bool
is_module_head h.Module = true
is_module_head (h.ImportDecl meta) = true
is_module_head h.ImportNamedSpecifier = true
is_module_head h.ImportDefaultSpecifier = true
is_module_head h.ImportStarAsSpecifier = true
is_module_head h.ExportDecl = true
is_module_head (h.NamedExport meta) = true
is_module_head h.ExportNamespaceSpecifier = true
is_module_head h.ExportNamedSpecifier = true
is_module_head h.ExportDefaultDecl = true
is_module_head h.ExportDefaultExpr = true
is_module_head (h.ExportAll meta) = true
is_module_head _ = false

-- a name that is bound, and what follows it
pub record BeginsNamed (rest : List Item) : Type 0 where
  pub outer : ℕ
  pub inner : ℕ
  pub sym : List ℕ
  pub ctxt : ℕ
  pub role : Role
  pub more : List Item
  pub is : rest ≡ h.Open outer h.BindingIdent ∷ h.Ident inner sym ctxt role ∷ h.Close ∷ more

-- what follows the beginning of a shorthand property of a pattern: its name
abbrev pub HasName : Head → List Item → Type 0
HasName h.AssignPatProp rest = BeginsNamed rest
HasName _ rest = Unit {0}

-- `AreStatements depth items`: whole nodes, of which `depth` are open at first, with no node of a
-- module's
pub data AreStatements : ℕ → List Item → Type 0 where
  over : AreStatements zero []
  begun : {depth field : ℕ} {head : Head} {rest : List Item} →
      is_module_head head ≡ false →
      HasName head rest →
      AreStatements (suc depth) rest →
      AreStatements depth (h.Open field head ∷ rest)
  ended : {depth : ℕ} {rest : List Item} →
      AreStatements depth rest →
      AreStatements (suc depth) (h.Close ∷ rest)
  named : {depth field ctxt : ℕ} {sym : List ℕ} {role : Role} {rest : List Item} →
      AreStatements depth rest →
      AreStatements depth (h.Ident field sym ctxt role ∷ rest)
  empty : {depth field : ℕ} {rest : List Item} →
      AreStatements depth rest →
      AreStatements depth (h.Hole field ∷ rest)

-- a module of these statements, with what follows them and ends it
abbrev pub module_with : List Item → List Item → List Item
module_with stmts after = h.Open 0 h.Module ∷ (stmts ++ after)

-- A list of exports.

-- the exported name of a specifier
pub data ExportedName : Type 0 where
  word : (x : Text) (ctxt : ℕ) → ExportedName
  text : (x : Text) (raw : Option Text) → ExportedName

-- `l as x`
pub record Specifier : Type 0 where
  pub sym : Text
  pub ctxt : ℕ
  pub name : Option ExportedName

-- the name behind `as`
abbrev pub name_items : Option ExportedName → List Item
name_items None = []
name_items (Some (word x ctxt)) = h.Ident 1 x ctxt IsWord ∷ []
name_items (Some (text x raw)) = h.Open 1 (h.Str x raw) ∷ h.Close ∷ []

-- `l as x`
abbrev pub specifier_items : Specifier → List Item
specifier_items it =
    h.Open 0 h.ExportNamedSpecifier ∷ h.Ident 0 it.sym it.ctxt Reference
    ∷ (name_items it.name ++ h.Close ∷ [])

-- `export { l as x, .. };`
abbrev pub export_items : ExportMetadata → List Specifier → List Item
export_items meta specifiers =
    h.Open 0 (h.NamedExport meta) ∷ (flat_map specifier_items specifiers ++ h.Close ∷ [])

-- no item, or one list of exports of the module's own names
pub data IsBack : List Item → Type 0 where
  nothing : IsBack []
  exports : (meta : ExportMetadata) (specifiers : List Specifier) →
      IsBack (export_items meta specifiers)

-- What can be called.

-- a declaration that some scope around it takes
pub record IsTaken (d : Declared) : Type 0 where
  pub taken : is_some (nearest (from_taker d.by d.scopes)) ≡ true

-- the tree is a module of statements and perhaps, behind them, a list of exports; each declaration
-- in it has a scope that takes it
pub record CanBeCalled (reading : Reading) (tree : List Item) : Type 0 where
  pub stmts : List Item
  pub back : List Item
  pub is : tree ≡ module_with stmts (back ++ h.Close ∷ [])
  pub statements : AreStatements zero stmts
  pub ends : IsBack back
  pub taken : Every IsTaken (declared reading Es tree)

-- whether a statement begins with a list of exports
abbrev pub begins_list : List Element → Bool
begins_list (taken place (h.Open field head) ∷ rest) = is_export_list head
begins_list (written (h.Open field head) ∷ rest) = is_export_list head
begins_list _ = false

-- no own statement of a reached module is a list of exports
abbrev pub StatesNoExports : Program → Type 0
StatesNoExports p =
    (m : ℕ) →
    IsReached p m →
    Every (λ statement. begins_list statement ≡ false) (own_statements (tree_of p m))
