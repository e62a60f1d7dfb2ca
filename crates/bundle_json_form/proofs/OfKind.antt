-- What follows the first tree of a list: it is found by counting the nodes that are open.
-- A name is that of one kind of node; what stands in nodes of a kind is told by the kind.
use Rattle.std.proofs.Common.{◌≡◌, ℕ, zero, suc, List, [], ◌∷◌, ◌++◌, refl, sym, ap, ◌∙◌, append_assoc, arith, Bool, Option, Some, None, option_map, subst, codes}
use Rattle.std.specs.List.{AllByRecursion}
use Rattle.serde_json.specs.Data.{Data}
use Rattle.bundle_syntax.specs.Item as h
use Rattle.bundle_syntax.specs.Item.{Item, Head}
use Rattle.bundle_syntax.specs.declared.kind.ExportMetadata.{ExportMetadata}
use Rattle.bundle_syntax.specs.declared.piece.Role.{Role}
use Rattle.bundle_syntax.specs.declared.piece.Role.TheVariants.{Reference}
use Rattle.bundle_json_form.specs.Form.{Tree, ident, hole, node, Fields, no_fields, in_field, Trees, no_trees, tree, tree_items, fields_items, trees_items, Field, Scalar, text, optional_text, truth, given, node_fields, ident_role, is_value_given, name, names_role, place_in, scalars, text_at, IsHeadOf, IsScalarRead}
use Rattle.bundle_json_form.specs.Texts.{IsAfterFirst, depth_after}
use Rattle.bundle_json_form.specs.Kinds.{kind_of}
use Rattle.bundle_json_form.specs.Reading.{HasScalars, HasScalar}

-- ---- after

-- what is left where no node is open any more
abbrev pub past : ℕ → List Item → List Item
past opened [] = []
past opened (h.Open field head ∷ more) = past (suc opened) more
past zero (h.Ident field name ctxt role ∷ more) = more
past (suc opened) (h.Ident field name ctxt role ∷ more) = past (suc opened) more
past zero (h.Hole field ∷ more) = more
past (suc opened) (h.Hole field ∷ more) = past (suc opened) more
past zero (h.Close ∷ more) = more
past (suc zero) (h.Close ∷ more) = more
past (suc (suc opened)) (h.Close ∷ more) = past (suc opened) more

-- an element more, behind which no node is open, or one still is
pub past_last : (it : Item) (more : List Item) (opened next : ℕ) → next ≡ depth_after it opened → next ≡ 0
    → past opened (it ∷ more) ≡ more
past_last (h.Open field head) more opened next is none = absurd (omega (arith, is, none))
past_last (h.Ident field name ctxt role) more zero next is none = refl
past_last (h.Ident field name ctxt role) more (suc opened) next is none = absurd (omega (arith, is, none))
past_last (h.Hole field) more zero next is none = refl
past_last (h.Hole field) more (suc opened) next is none = absurd (omega (arith, is, none))
past_last h.Close more zero next is none = refl
past_last h.Close more (suc zero) next is none = refl
past_last h.Close more (suc (suc opened)) next is none = absurd (omega (arith, is, none))

mutual
  past-tree : (opened field : ℕ) (it : Tree) (more : List Item)
      → past (suc opened) (tree_items field it ++ more) ≡ past (suc opened) more
  past-tree opened field (ident name ctxt role) more = refl
  past-tree opened field hole more = refl
  past-tree opened field (node head inside) more =
      ap (past (suc (suc opened))) (append_assoc (fields_items inside) (h.Close ∷ []) more)
      ∙ past-fields (suc opened) inside (h.Close ∷ more)

  past-fields : (opened : ℕ) (inside : Fields) (more : List Item)
      → past (suc opened) (fields_items inside ++ more) ≡ past (suc opened) more
  past-fields opened no_fields more = refl
  past-fields opened (in_field number them rest) more =
      ap (past (suc opened)) (append_assoc (trees_items number them) (fields_items rest) more)
      ∙ past-trees opened number them (fields_items rest ++ more)
      ∙ past-fields opened rest more

  past-trees : (opened field : ℕ) (them : Trees) (more : List Item)
      → past (suc opened) (trees_items field them ++ more) ≡ past (suc opened) more
  past-trees opened field no_trees more = refl
  past-trees opened field (tree it rest) more =
      ap (past (suc opened)) (append_assoc (tree_items field it) (trees_items field rest) more)
      ∙ past-tree opened field it (trees_items field rest ++ more)
      ∙ past-trees opened field rest more

past-first : (field : ℕ) (it : Tree) (more : List Item) → past 0 (tree_items field it ++ more) ≡ more
past-first field (ident name ctxt role) more = refl
past-first field hole more = refl
past-first field (node head inside) more =
    ap (past 1) (append_assoc (fields_items inside) (h.Close ∷ []) more)
    ∙ past-fields 0 inside (h.Close ∷ more)

pub is_after_first : (items rest : List Item) → rest ≡ past 0 items → IsAfterFirst items rest
is_after_first items rest found field it more listed =
    found ∙ ap (past 0) listed ∙ past-first field it more

pub after_last : (items left more : List Item) (it : Item) (opened next : ℕ) → left ≡ it ∷ more
    → next ≡ depth_after it opened → next ≡ 0 → past opened left ≡ past 0 items → IsAfterFirst items more
after_last items left more it opened next is count none same =
    is_after_first items more
    (sym (past_last it more opened next count none) ∙ ap (past opened) (sym is) ∙ same)

pub after_end : (items left : List Item) (opened : ℕ) → left ≡ [] → past opened left ≡ past 0 items
    → IsAfterFirst items left
after_end items left opened none same =
    is_after_first items left (none ∙ sym (ap (past opened) none) ∙ same)

-- ---- of kind

-- the kind that may have a name has it, if there is one
pub known : (kind : Head) → option_map name (kind_of (name kind)) ≡ Some (name kind)
unfolding kind_of
known h.Module = refl
known _ = refl

-- What a kind has does not depend on what stands in a node of it.

abbrev fields_by : Option Head → Data → List Field
fields_by None d = []
fields_by (Some (h.NewExpr _)) d = node_fields (h.NewExpr (is_value_given (codes "args") d))
fields_by (Some kind) d = node_fields kind

fields-known : (d : Data) (kind : Head) → AllByRecursion (IsScalarRead d) (scalars kind)
    → node_fields kind ≡ fields_by (kind_of (name kind)) d
unfolding kind_of
fields-known d (h.NewExpr has_args) read = ap (λ (b : Bool). node_fields (h.NewExpr b)) (sym read.0)
fields-known d _ read = refl

abbrev ident_by : Option Head → ℕ → Role → Role
ident_by None field names = Reference
ident_by (Some kind) field names = ident_role kind field names

ident-known : (kind : Head) (field : ℕ) (names : Role)
    → ident_role kind field names ≡ ident_by (kind_of (name kind)) field names
unfolding kind_of
ident-known h.Module field names = refl
ident-known _ field names = refl

abbrev names_by : Option Head → ℕ → Role → Bool → Role
names_by None field names has_source = Reference
names_by (Some kind) field names has_source = names_role kind field names has_source

names-known : (kind : Head) (field : ℕ) (names : Role) (has_source : Bool)
    → names_role kind field names has_source ≡ names_by (kind_of (name kind)) field names has_source
unfolding kind_of
names-known h.Module field names has_source = refl
names-known _ field names has_source = refl

abbrev scalars_by : Data → Option Head → Type 0
scalars_by d None = ⊥
scalars_by d (Some kind) = HasScalars d kind

to_kind : (d : Data) (kind : Head) → HasScalars d kind → scalars_by d (kind_of (name kind))
unfolding kind_of
to_kind d h.Module has = has
to_kind d _ has = has

from_kind : (d : Data) (kind : Head) → scalars_by d (kind_of (name kind)) → HasScalars d kind
unfolding kind_of
from_kind d h.Module has = has
from_kind d _ has = has

-- Nodes of one name.

pub same_fields : (meta : ExportMetadata) (d : Data) (one other : Head)
    → IsHeadOf meta d one → IsHeadOf meta d other → name one ≡ name other → node_fields one ≡ node_fields other
same_fields meta d one other is is_other same =
    fields-known d one is.filled
    ∙ ap (λ n. fields_by (kind_of n) d) same
    ∙ sym (fields-known d other is_other.filled)

same_ident : (one other : Head) (field : ℕ) (names : Role) → name one ≡ name other
    → ident_role one field names ≡ ident_role other field names
same_ident one other field names same =
    ident-known one field names
    ∙ ap (λ n. ident_by (kind_of n) field names) same
    ∙ sym (ident-known other field names)

same_names : (one other : Head) (field : ℕ) (names : Role) (has_source : Bool)
    → name one ≡ name other
    → names_role one field names has_source ≡ names_role other field names has_source
same_names one other field names has_source same =
    names-known one field names has_source
    ∙ ap (λ n. names_by (kind_of n) field names has_source) same
    ∙ sym (names-known other field names has_source)

pub same_place : (one other : Head) (names : Role) (d : Data) (it : Field) → name one ≡ name other
    → place_in one names d it ≡ place_in other names d it
same_place one other names d it same =
    let a = same_ident one other it.number names same in
    let b = same_names one other it.number names (is_value_given (codes "src") d) same in
    rw (a, b) refl

-- What is read.

readable-one : (d : Data) (it : Scalar) → IsScalarRead d it → HasScalar d it
readable-one d (text key it) is = (it, is)
readable-one d (optional_text key it) is = (it, is)
readable-one d (truth key it) is = (it, is)
readable-one d (given key it) is = tt

readable : (d : Data) (them : List Scalar) → AllByRecursion (IsScalarRead d) them → AllByRecursion (HasScalar d) them
readable d [] is = tt
readable d (it ∷ more) is = (readable-one d it is.0, readable d more is.1)

has_own : (d : Data) (kind : Head) → AllByRecursion (IsScalarRead d) (scalars kind) → HasScalars d kind
has_own d (h.VarDecl kind _) is = (kind, is.0)
has_own d (h.UnaryExpr op) is = (op, is.0)
has_own d (h.UpdateExpr op prefix) is = ((op, is.0), (prefix, is.1.0))
has_own d (h.BinExpr op) is = (op, is.0)
has_own d (h.AssignExpr op) is = (op, is.0)
has_own d (h.MetaPropExpr kind) is = (kind, is.0)
has_own d (h.ClassMethod kind is_static) is = ((kind, is.0), (is_static, is.1.0))
has_own d (h.PrivateMethod kind is_static) is = ((kind, is.0), (is_static, is.1.0))
has_own d kind is = readable d (scalars kind) is

-- where a node is read of `d`, it has what every kind of that name asks for
pub has_scalars : (meta : ExportMetadata) (d : Data) (head kind : Head) → IsHeadOf meta d head
    → name head ≡ name kind → HasScalars d kind
has_scalars meta d head kind is same =
    from_kind d kind
    (subst (λ (n : List ℕ). scalars_by d (kind_of n)) same (to_kind d head (has_own d head is.filled)))

pub not_filled : (meta : ExportMetadata) (d : Data) (word : List ℕ) (kind : Head)
    → text_at (codes "type") d ≡ Some word → name kind ≡ word → ¬ HasScalars d kind
    → (head : Head) → ¬ IsHeadOf meta d head
not_filled meta d word kind is named none head its =
    let e = its.named in let same : name head ≡ name kind = cc in none (has_scalars meta d head kind its same)
