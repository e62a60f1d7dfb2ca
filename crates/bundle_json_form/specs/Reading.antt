-- What the functions of the reader say of the list.
use Rattle.std.specs.Prelude.{◌≡◌, ◌⊎◌, ℕ, Bool, List, ◌++◌, Option, Some, IsSomeAnd, codes}
use Rattle.std.specs.List.{AllByRecursion}
use Rattle.serde_json.specs.Data.{Data, Items}
use Rattle.bundle_syntax.specs.Text.{unary_text, update_text, binary_text, assign_text, declaration_word, method_word, meta_prop_text}
use Rattle.bundle_syntax.specs.declared.kind.ExportMetadata.{ExportMetadata}
use Rattle.bundle_syntax.specs.declared.kind.MetaPropKind.{MetaPropKind}
use Rattle.bundle_syntax.specs.declared.kind.MethodKind.{MethodKind}
use Rattle.bundle_syntax.specs.declared.kind.VarDeclKind.{VarDeclKind}
use Rattle.bundle_syntax.specs.declared.operator.AssignOp.{AssignOp}
use Rattle.bundle_syntax.specs.declared.operator.BinaryOp.{BinaryOp}
use Rattle.bundle_syntax.specs.declared.operator.UnaryOp.{UnaryOp}
use Rattle.bundle_syntax.specs.declared.operator.UpdateOp.{UpdateOp}
use Rattle.bundle_syntax.specs.declared.piece.Role.{Role}
use Rattle.bundle_syntax.specs.Item as h
use Rattle.bundle_syntax.specs.Item.{Item, Head}
use Rattle.bundle_json_form.specs.Form.{Field, Fields, Tree, hole, Trees, Reads, ReadsEach, ReadsFields, Scalar, text, optional_text, truth, given, fields_items, name, optional_text_at, scalars, text_at, truth_at, values, IsScalarRead, HasNotes}
use Rattle.bundle_json_form.specs.declared.error.FormError.{FormError}
use Rattle.bundle_json_form.specs.declared.error.FormError.TheVariants.{OutOfMemory}
use Rattle.bundle_json_form.specs.declared.layout.Shape.{Shape}
use Rattle.bundle_json_form.specs.declared.role.NodePlace.{NodePlace}

-- a head of the same name as `kind`, with the scalars of `d`
pub record IsFilled (meta : ExportMetadata) (d : Data) (kind head : Head) : Type 0 where
  pub same_name : name head ≡ name kind
  pub filled : AllByRecursion (IsScalarRead d) (scalars head)
  pub noted : HasNotes meta head

-- `d` has under the keys of these fields the forms of the nodes whose list is `items`
pub record AreFields
    (meta : ExportMetadata) (names : Role) (d : Data) (head : Head) (them : List Field)
    (items : List Item) : Type 0 where
  pub inside : Fields
  pub read : ReadsFields meta names d head them inside
  pub listed : items ≡ fields_items inside

-- the list grew at its end by items of which this holds
pub record GrowsBy (Holds : List Item → Type 0) (old new : List Item) : Type 0 where
  pub added : List Item
  pub holds : Holds added
  pub grown : new ≡ old ++ added

-- What the functions of the reader say of a refusal.

-- it is for want of memory, or this is the reason
abbrev pub RefusesReading : Type 0 → FormError → Type 0
RefusesReading reason refusal = (refusal ≡ OutOfMemory) ⊎ reason

-- `d` has some scalar of this sort under this key
abbrev pub HasScalar : Data → Scalar → Type 0
HasScalar d (text key _) = (it : List ℕ) × (text_at key d ≡ Some it)
HasScalar d (optional_text key _) = (it : Option (List ℕ)) × (optional_text_at key d ≡ Some it)
HasScalar d (truth key _) = (it : Bool) × (truth_at key d ≡ Some it)
HasScalar d (given key _) = Unit {0}

-- `d` has such scalars as nodes of this kind have
abbrev pub HasScalars : Data → Head → Type 0
HasScalars d (h.VarDecl _ _) =
    (kind : VarDeclKind) × (text_at (codes "kind") d ≡ Some (declaration_word kind))
HasScalars d (h.UnaryExpr _) = (op : UnaryOp) × (text_at (codes "op") d ≡ Some (unary_text op))
HasScalars d (h.UpdateExpr _ prefix) =
    ((op : UpdateOp) × (text_at (codes "op") d ≡ Some (update_text op)))
    × HasScalar d (truth (codes "prefix") prefix)
HasScalars d (h.BinExpr _) = (op : BinaryOp) × (text_at (codes "op") d ≡ Some (binary_text op))
HasScalars d (h.AssignExpr _) = (op : AssignOp) × (text_at (codes "op") d ≡ Some (assign_text op))
HasScalars d (h.MetaPropExpr _) =
    (kind : MetaPropKind) × (text_at (codes "kind") d ≡ Some (meta_prop_text kind))
HasScalars d (h.ClassMethod _ is_static) =
    ((kind : MethodKind) × (text_at (codes "kind") d ≡ Some (method_word kind)))
    × HasScalar d (truth (codes "is_static") is_static)
HasScalars d (h.PrivateMethod _ is_static) =
    ((kind : MethodKind) × (text_at (codes "kind") d ≡ Some (method_word kind)))
    × HasScalar d (truth (codes "is_static") is_static)
HasScalars d kind = AllByRecursion (HasScalar d) (scalars kind)

-- `d` is the form of no node in this place, and of none but a place that has no element
abbrev pub HasNoNode : ExportMetadata → NodePlace → Data → Type 0
HasNoNode meta at d = (it : Tree) → Reads meta at d it → it ≡ hole

-- the values are the forms of no nodes in this place
abbrev pub HasNoNodes : ExportMetadata → NodePlace → Items → Type 0
HasNoNodes meta at ds = (them : Trees) → ¬ ReadsEach meta at ds them

-- what is found under a key is not what this place asks for
abbrev pub HasNoField : ExportMetadata → NodePlace → Shape → Option Data → Type 0
HasNoField meta at shape found =
    (them : Trees) → ¬ IsSomeAnd (values shape found) (λ ds. ReadsEach meta at ds them)
