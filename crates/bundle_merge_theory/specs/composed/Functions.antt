-- The function of a CommonJS module in a bundle, by its list, where these identifiers stand in
-- front of its statements.
use Rattle.std.specs.Prelude.{ℕ, false, List, [], ◌∷◌, ◌++◌}
use Rattle.std.specs.List.{AllZip}
use Rattle.bundle_syntax.specs.declared.kind.ExportMetadata.{ExportMetadata}
use Rattle.bundle_syntax.specs.declared.kind.VarDeclKind.TheVariants.{Var}
use Rattle.bundle_syntax.specs.declared.piece.Role.TheVariants.{Binding, Reference}
use Rattle.bundle_syntax.specs.Item as h
use Rattle.bundle_syntax.specs.Item.{Item}
use Rattle.bundle_rules.specs.Idents.{Ident}
use Rattle.bundle_rules.specs.Sorting.{flat}
use Rattle.bundle_tree_places.specs.Edits.{node}
pub use Rattle.bundle_merge_theory.specs.loaded.Pieces.{function_names}
use Rattle.bundle_merge_theory.specs.walked.Renaming.{ItemMeaning, HasMarks}
use Rattle.bundle_merge_theory.specs.composed.Noted.{NotedItem, AsWhole, AsFunction}

-- `var load = helper(function (module, exports) {`
abbrev pub load_function_front : ExportMetadata → (load helper which exports : Ident) → List Item
load_function_front meta load helper which exports =
    h.Open 0 (h.VarDecl Var meta) ∷ h.Open 1 h.VarDeclarator ∷ h.Open 0 h.BindingIdent ∷ h.Ident 0
    load.0 load.1 Binding ∷ h.Close
    ∷ h.Open 1 h.CallExpr ∷ h.Ident 0 helper.0 helper.1 Reference ∷ h.Open 1 (h.ExprOrSpread false)
    ∷ h.Open 1 h.FnExpr ∷ h.Open 1 (h.Function false false)
    ∷ h.Open 0 h.Param ∷ h.Open 0 h.BindingIdent ∷ h.Ident 0 which.0 which.1 Binding ∷ h.Close
    ∷ h.Close
    ∷ h.Open 0 h.Param ∷ h.Open 0 h.BindingIdent ∷ h.Ident 0 exports.0 exports.1 Binding ∷ h.Close ∷
    h.Close
    ∷ h.Open 1 h.BlockStmt ∷ []

-- its declarator, with these elements as the body
abbrev pub function_declarator : (load helper which exports : Ident) → List Item → List Item
function_declarator load helper which exports body =
    node 1 h.VarDeclarator (node 0 h.BindingIdent (h.Ident 0 load.0 load.1 Binding ∷ [])
    ++ node 1 h.CallExpr (h.Ident 0 helper.0 helper.1 Reference
    ∷ node 1 (h.ExprOrSpread false) (node 1 h.FnExpr (node 1 (h.Function false false)
    (node 0 h.Param (node 0 h.BindingIdent (h.Ident 0 which.0 which.1 Binding ∷ []))
    ++ (node 0 h.Param (node 0 h.BindingIdent (h.Ident 0 exports.0 exports.1 Binding ∷ []))
    ++ node 1 h.BlockStmt body))))))

-- the function
abbrev pub load_function_items : ExportMetadata → (load helper which exports : Ident) → List Item →
    List Item
load_function_items meta load helper which exports body =
    node 0 (h.VarDecl Var meta) (function_declarator load helper which exports body)

-- an item is told to be a whole, or a function of this form
pub data IsOfForm : List Item → NotedItem → Type 0 where
  whole_form : {item : List Item} {told : ItemMeaning} → HasMarks item told →
      IsOfForm item (AsWhole told)
  function_form :
      {c : ℕ} {insides : List (List Item)} {tolds : List ItemMeaning} (meta : ExportMetadata)
      (load helper which exports : Ident) →
      AllZip HasMarks insides tolds →
      IsOfForm (load_function_items meta load helper which exports (flat insides))
      (AsFunction (load_function_front meta load helper which exports) (function_names c)
      insides tolds)
