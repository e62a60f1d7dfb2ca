-- The stack of open nodes.
-- The text of an identifier.
-- One element of the list more.
-- A value is the form of one list at most.
use Rattle.std.proofs.Common.{◌≡◌, ℕ, List, [], ◌∷◌, ◌++◌, map, refl, sym, ap, ◌∙◌, ◌==◌, Bool, true, false, if◌then◌else◌, codes, decimal, append_assoc, ◌+◌, ◌<◌, ◌≤◌, length, get_or, drop, rules, Option, Some, None, option_map, option_and_then, bytes_eq, cond, subst}
use Rattle.std.proofs.lemmas.List.{map-append, drop_more, drop_all}
use Rattle.std.specs.Prelude.{IsSomeAnd}
use Rattle.std.specs.List.{AllByRecursion}
use Rattle.serde_json.specs.View.{view}
use Rattle.serde_json.specs.declared.value.Value.{Value, Null, the_lemmas}
use Rattle.json.specs.Print.{escape_byte, quoted}
use Rattle.serde_json.specs.Data.{number, unsigned, string, object, Members, no_members, put, Data, null, boolean, array, Items, no_items, item}
use Rattle.serde_json.specs.Written.{compact_text}
use Rattle.serde_json.specs.Find.{as_array, get}
use Rattle.bundle_syntax.specs.Item as in_item
use Rattle.bundle_syntax.specs.Item.{head_of, Item, item_of, Close, Head}
use Rattle.bundle_syntax.specs.declared.piece.Role.TheVariants.{Reference}
use Rattle.bundle_syntax.specs.declared.piece.Role.{Role}
use Rattle.bundle_syntax.specs.declared.piece.Piece.{Piece}
use Rattle.bundle_syntax.specs.Text.{unary_text, update_text, binary_text, assign_text, declaration_word, method_word, meta_prop_text}
use Rattle.bundle_syntax.specs.declared.kind.ExportMetadata.{ExportMetadata}
use Rattle.bundle_syntax.specs.declared.kind.MetaPropKind.{MetaPropKind}
use Rattle.bundle_syntax.specs.declared.kind.MethodKind.{MethodKind}
use Rattle.bundle_syntax.specs.declared.kind.VarDeclKind.{VarDeclKind}
use Rattle.bundle_syntax.specs.declared.operator.AssignOp.{AssignOp}
use Rattle.bundle_syntax.specs.declared.operator.BinaryOp.{BinaryOp}
use Rattle.bundle_syntax.specs.declared.operator.UnaryOp.{UnaryOp}
use Rattle.bundle_syntax.specs.declared.operator.UpdateOp.{UpdateOp}
use Rattle.bundle_syntax.specs.declared.piece.Node as r_node
use Rattle.bundle_syntax.specs.declared.piece.Piece.TheVariants as p
use Rattle.bundle_syntax.specs.declared.kind.MetaPropKind.TheVariants as mp
use Rattle.bundle_syntax.specs.declared.kind.MethodKind.TheVariants as me
use Rattle.bundle_syntax.specs.declared.kind.VarDeclKind.TheVariants as vd
use Rattle.bundle_syntax.specs.declared.operator.AssignOp.TheVariants as ao
use Rattle.bundle_syntax.specs.declared.operator.BinaryOp.TheVariants as bo
use Rattle.bundle_syntax.specs.declared.operator.UnaryOp.TheVariants as uo
use Rattle.bundle_syntax.specs.declared.operator.UpdateOp.TheVariants as up
use Rattle.bundle_json_form.specs.declared.write.OpenNode.{OpenNode}
use Rattle.bundle_json_form.specs.Writing.{child_of, frame_of, frames, with_child, Frame, node_form}
use Rattle.bundle_json_form.specs.Form.{ident, written, IsFormWritten, Field, node_fields, Tree, hole, node, Fields, no_fields, in_field, Trees, no_trees, tree, tree_items, trees_items, is_value_given, is_null, name, optional_text_at, place_in, scalars, text_at, top, truth_at, values, AreForms, HasNotes, IsForm, IsHeadOf, IsScalarRead, Reads, ReadsEach, ReadsFields}
use Rattle.bundle_json_form.specs.Texts.{context_text}
use Rattle.bundle_json_form.proofs.Run.{run, is_form_written}
use Rattle.bundle_json_form.specs.Kinds.{kind_of}
use Rattle.bundle_json_form.specs.Reading.{GrowsBy}
use Rattle.bundle_json_form.specs.declared.role.NodePlace.{NodePlace}
use Rattle.bundle_json_form.proofs.Growth.{not_ident}

-- ---- frames

-- the last of the open nodes is the innermost
pub frames-last : (open_nodes : List OpenNode) (it : OpenNode) → frames (open_nodes ++ it ∷ []) ≡ frame_of it ∷ frames open_nodes
frames-last [] it = refl
frames-last (x ∷ xs) it = ap (λ r. r ++ frame_of x ∷ []) (frames-last xs it)

with_one_more : (it : OpenNode) (field : ℕ) (value : Value) (children : List (ℕ × Value)) → children ≡ it.children.items ++ (field, value) ∷ []
    → map child_of children ≡ map child_of it.children.items ++ (field, view value) ∷ []
with_one_more it field value children e = ap (map child_of) e ∙ map-append child_of it.children.items ((field, value) ∷ [])

-- the innermost node was taken out, and put back with one more value
pub one_more_child : (old new below : List OpenNode) (before after : OpenNode) (field : ℕ) (value : Value)
    → old ≡ below ++ before ∷ [] → new ≡ below ++ after ∷ [] → after.field ≡ before.field → after.node ≡ before.node → after.children.items ≡ before.children.items ++ (field, value) ∷ []
    → frames new ≡ with_child (field, view value) (frames old)
one_more_child old new below before after field value was is same_field same_node more =
    let children = with_one_more before field value after.children.items more in
    let a = frames-last below after in let b = frames-last below before in
    let e : frame_of after ≡ record { field = before.field; head = head_of before.node; children = map child_of before.children.items ++ (field, view value) ∷ [] } = rw (same_field, same_node, children) refl in
    ap frames is ∙ a ∙ ap (λ top. top ∷ frames below) e ∙ sym (ap (with_child (field, view value)) (ap frames was ∙ b))

-- ---- idents

-- the text of an identifier
ident_members : List ℕ → Members
ident_members name = put (codes "sym") (string name) (put (codes "type") (string (codes "Ident")) no_members)

ident_by : (none : Bool) (name : List ℕ) (ctxt : ℕ)
    → compact_text (object (if none then ident_members name else put (codes "ctxt") (number (unsigned ctxt)) (ident_members name)))
    ≡ codes "{" ++ ((if none then [] else codes "\"ctxt\":" ++ (decimal ctxt ++ codes ",")) ++ (codes "\"sym\":" ++ (quoted name ++ codes ",\"type\":\"Ident\"}")))
unfolding escape_byte ident_members
ident_by true name ctxt = refl
ident_by false name ctxt =
    ap (λ l. codes "{\"ctxt\":" ++ l) (sym (append_assoc (decimal ctxt) (codes ",") (codes "\"sym\":" ++ (quoted name ++ codes ",\"type\":\"Ident\"}"))))

pub ident_text : (name : List ℕ) (ctxt : ℕ) → compact_text (written (ident name ctxt Reference))
    ≡ codes "{" ++ (context_text ctxt ++ (codes "\"sym\":" ++ (quoted name ++ codes ",\"type\":\"Ident\"}")))
unfolding ident_members
ident_text name ctxt = ident_by (ctxt == 0) name ctxt

pub ident_put : (name : List ℕ) (ctxt : ℕ) (old opened context keyed named new : List ℕ)
    → opened ≡ old ++ 123 ∷ [] → context ≡ opened ++ context_text ctxt → keyed ≡ context ++ codes "\"sym\":"
    → named ≡ keyed ++ quoted name → new ≡ named ++ codes ",\"type\":\"Ident\"}"
    → new ≡ old ++ compact_text (written (ident name ctxt Reference))
ident_put name ctxt old opened context keyed named new opens puts keys names ends =
    let end : List ℕ = codes ",\"type\":\"Ident\"}" in
    let whole : new ≡ old ++ (123 ∷ [] ++ (context_text ctxt ++ (codes "\"sym\":" ++ (quoted name ++ end))))
    = ends
    ∙ ap (λ l. l ++ end) (names ∙ ap (λ l. l ++ quoted name) (keys ∙ ap (λ l. l ++ codes "\"sym\":") (puts ∙ ap (λ l. l ++ context_text ctxt) opens)))
    ∙ regroup old (123 ∷ []) (context_text ctxt) (codes "\"sym\":") (quoted name) end in
    whole ∙ ap (λ l. old ++ l) (sym (ident_text name ctxt))
  where
    regroup : (o a b c d e : List ℕ) → ((((o ++ a) ++ b) ++ c) ++ d) ++ e ≡ o ++ (a ++ (b ++ (c ++ (d ++ e))))
    regroup o a b c d e = simp append_assoc

-- ---- steps

-- the element at the index comes next
next_is : (open_nodes : List Frame) (pieces : List Piece) (i : ℕ) (piece it : Piece) (whole : Data) → i < length pieces → piece ≡ get_or pieces i piece → piece ≡ it
    → run open_nodes (map item_of (drop i pieces)) ≡ whole → run open_nodes (item_of it ∷ map item_of (drop (i + 1) pieces)) ≡ whole
next_is open_nodes pieces i piece it whole within at is so_far =
    let e : drop i pieces ≡ it ∷ drop (i + 1) pieces = drop_more pieces i piece within ∙ ap (λ x. x ∷ drop (i + 1) pieces) (sym at ∙ is) in
    sym (ap (λ more. run open_nodes (map item_of more)) e) ∙ so_far

pub open_step : (before after : List OpenNode) (it : OpenNode) (pieces : List Piece) (i : ℕ) (piece : Piece) (field : ℕ) (nd : r_node.Node) (whole : Data)
    → i < length pieces → piece ≡ get_or pieces i piece → piece ≡ p.Open field nd → after ≡ before ++ it ∷ [] → it.field ≡ field → it.node ≡ nd → it.children.items ≡ []
    → run (frames before) (map item_of (drop i pieces)) ≡ whole → run (frames after) (map item_of (drop (i + 1) pieces)) ≡ whole
open_step before after it pieces i piece field nd whole within at is grown same_field same_node empty so_far =
    let e : frame_of it ≡ record { field = field; head = head_of nd; children = [] } = rw (same_field, same_node, empty) refl in
    ap (λ x. run x (map item_of (drop (i + 1) pieces))) (ap frames grown ∙ frames-last before it ∙ ap (λ top. top ∷ frames before) e)
    ∙ next_is (frames before) pieces i piece (p.Open field nd) whole within at is so_far

pub ident_step : (before after : List OpenNode) (pieces : List Piece) (i : ℕ) (piece : Piece) (field : ℕ) (sym' : _) (ctxt : ℕ) (role : Role) (value whole : Data)
    → i < length pieces → piece ≡ get_or pieces i piece → piece ≡ p.Ident field sym' ctxt role → value ≡ written (ident sym'.now ctxt Reference) → frames after ≡ with_child (field, value) (frames before)
    → run (frames before) (map item_of (drop i pieces)) ≡ whole → run (frames after) (map item_of (drop (i + 1) pieces)) ≡ whole
ident_step before after pieces i piece field sym' ctxt role value whole within at is given grown so_far =
    ap (λ x. run x (map item_of (drop (i + 1) pieces))) (grown ∙ ap (λ v. with_child (field, v) (frames before)) given)
    ∙ next_is (frames before) pieces i piece (p.Ident field sym' ctxt role) whole within at is so_far

pub hole_step : (before after : List OpenNode) (pieces : List Piece) (i : ℕ) (piece : Piece) (field : ℕ) (value whole : Data)
    → i < length pieces → piece ≡ get_or pieces i piece → piece ≡ p.Hole field → value ≡ null → frames after ≡ with_child (field, value) (frames before)
    → run (frames before) (map item_of (drop i pieces)) ≡ whole → run (frames after) (map item_of (drop (i + 1) pieces)) ≡ whole
hole_step before after pieces i piece field value whole within at is nothing grown so_far =
    ap (λ x. run x (map item_of (drop (i + 1) pieces))) (grown ∙ ap (λ v. with_child (field, v) (frames before)) nothing)
    ∙ next_is (frames before) pieces i piece (p.Hole field) whole within at is so_far

not_empty : (xs : List OpenNode) → (length xs ≡ 0 → ⊥) → (frames xs ≡ [] → ⊥)
not_empty [] some e = some refl
not_empty (x ∷ xs) some e = let h : length (frames xs ++ frame_of x ∷ []) ≡ 0 = ap length e in absurd (snoc_some (frames xs) (frame_of x) h)
  where
    snoc_some : (fs : List Frame) (f : Frame) → length (fs ++ f ∷ []) ≡ 0 → ⊥
    snoc_some [] f h = cc
    snoc_some (x ∷ xs) f h = cc

closed : (frame : Frame) (below : List Frame) (more : List Item) → (below ≡ [] → ⊥) → run (frame ∷ below) (Close ∷ more) ≡ run (with_child (frame.field, node_form frame.head frame.children) below) more
closed frame [] more some = absurd (some refl)
closed frame (next ∷ below) more some = refl

pub close_step : (before below after : List OpenNode) (top : OpenNode) (pieces : List Piece) (i : ℕ) (piece : Piece) (value whole : Data)
    → i < length pieces → piece ≡ get_or pieces i piece → piece ≡ p.Close → before ≡ below ++ top ∷ [] → (length below ≡ 0 → ⊥)
    → value ≡ node_form (head_of top.node) (map child_of top.children.items) → frames after ≡ with_child (top.field, value) (frames below)
    → run (frames before) (map item_of (drop i pieces)) ≡ whole → run (frames after) (map item_of (drop (i + 1) pieces)) ≡ whole
close_step before below after top pieces i piece value whole within at is was some given grown so_far =
    ap (λ x. run x (map item_of (drop (i + 1) pieces))) (grown ∙ ap (λ v. with_child (top.field, v) (frames below)) given)
    ∙ sym (closed (frame_of top) (frames below) (map item_of (drop (i + 1) pieces)) (not_empty below some))
    ∙ sym (ap (λ x. run x (Close ∷ map item_of (drop (i + 1) pieces))) (ap frames was ∙ frames-last below top))
    ∙ next_is (frames before) pieces i piece p.Close whole within at is so_far

pub empty_is : (xs : List OpenNode) → length xs ≡ 0 → xs ≡ []
empty_is [] e = refl
empty_is (x ∷ xs) e = cc

pub close_last : (before below : List OpenNode) (top : OpenNode) (pieces : List Piece) (i : ℕ) (piece : Piece) (value : Data)
    → i < length pieces → piece ≡ get_or pieces i piece → piece ≡ p.Close → before ≡ below ++ top ∷ [] → length below ≡ 0
    → value ≡ node_form (head_of top.node) (map child_of top.children.items)
    → run (frames before) (map item_of (drop i pieces)) ≡ run [] (map item_of pieces) → IsFormWritten value (map item_of pieces)
close_last before below top pieces i piece value within at is was none given so_far =
    is_form_written value (map item_of pieces)
    (given
    ∙ sym (ap (λ x. run x (Close ∷ map item_of (drop (i + 1) pieces))) (ap frames was ∙ frames-last below top ∙ ap (λ x. frame_of top ∷ frames x) (empty_is below none)))
    ∙ next_is (frames before) pieces i piece p.Close (run [] (map item_of pieces)) within at is so_far)

pub view_null : view Null ≡ null
view_null = search (rules, the_lemmas)

pub close_none : (before : List OpenNode) (pieces : List Piece) (i : ℕ) (piece : Piece) (value : Data)
    → i < length pieces → piece ≡ get_or pieces i piece → piece ≡ p.Close → before ≡ [] → value ≡ null
    → run (frames before) (map item_of (drop i pieces)) ≡ run [] (map item_of pieces) → IsFormWritten value (map item_of pieces)
close_none before pieces i piece value within at is none nothing so_far =
    is_form_written value (map item_of pieces)
    (nothing ∙ sym (ap (λ x. run (frames x) (Close ∷ map item_of (drop (i + 1) pieces))) none)
    ∙ next_is (frames before) pieces i piece p.Close (run [] (map item_of pieces)) within at is so_far)

pub at_end : (before : List OpenNode) (pieces : List Piece) (i : ℕ) (value : Data) → length pieces ≤ i → value ≡ null
    → run (frames before) (map item_of (drop i pieces)) ≡ run [] (map item_of pieces) → IsFormWritten value (map item_of pieces)
at_end before pieces i value past nothing so_far =
    is_form_written value (map item_of pieces) (nothing ∙ sym (ap (λ more. run (frames before) (map item_of more)) (drop_all i pieces past)) ∙ so_far)

-- ---- unique

-- The word for a value of a few tells it.

abbrev of_word : {A : Type 0} → (A → List ℕ) → List A → List ℕ → Option A
of_word word [] it = None
of_word word (x ∷ xs) it = cond (bytes_eq (word x) it) (Some x) (of_word word xs it)

abbrev declaration_of : List ℕ → Option VarDeclKind
declaration_of = of_word declaration_word (vd.Var ∷ vd.Let ∷ vd.Const ∷ [])

abbrev method_of : List ℕ → Option MethodKind
method_of = of_word method_word (me.Method ∷ me.Getter ∷ me.Setter ∷ [])

abbrev meta_prop_of : List ℕ → Option MetaPropKind
meta_prop_of = of_word meta_prop_text (mp.NewTarget ∷ mp.ImportMeta ∷ [])

abbrev unary_of : List ℕ → Option UnaryOp
unary_of = of_word unary_text (uo.Minus ∷ uo.Plus ∷ uo.Bang ∷ uo.Tilde ∷ uo.TypeOf ∷ uo.Void ∷ uo.Delete ∷ [])

abbrev update_of : List ℕ → Option UpdateOp
update_of = of_word update_text (up.PlusPlus ∷ up.MinusMinus ∷ [])

abbrev binary_of : List ℕ → Option BinaryOp
binary_of =
    of_word binary_text
    (bo.EqEq ∷ bo.NotEq ∷ bo.EqEqEq ∷ bo.NotEqEq ∷ bo.Lt ∷ bo.LtEq ∷ bo.Gt ∷ bo.GtEq ∷ bo.LShift ∷ bo.RShift
    ∷ bo.ZeroFillRShift ∷ bo.Add ∷ bo.Sub ∷ bo.Mul ∷ bo.Div ∷ bo.Mod ∷ bo.BitOr ∷ bo.BitXor ∷ bo.BitAnd
    ∷ bo.LogicalOr ∷ bo.LogicalAnd ∷ bo.In ∷ bo.InstanceOf ∷ bo.Exp ∷ bo.NullishCoalescing ∷ [])

abbrev assign_of : List ℕ → Option AssignOp
assign_of =
    of_word assign_text
    (ao.Assign ∷ ao.AddAssign ∷ ao.SubAssign ∷ ao.MulAssign ∷ ao.DivAssign ∷ ao.ModAssign ∷ ao.LShiftAssign
    ∷ ao.RShiftAssign ∷ ao.ZeroFillRShiftAssign ∷ ao.BitOrAssign ∷ ao.BitXorAssign ∷ ao.BitAndAssign
    ∷ ao.ExpAssign ∷ ao.AndAssign ∷ ao.OrAssign ∷ ao.NullishAssign ∷ [])

declaration-known : (kind : VarDeclKind) → declaration_of (declaration_word kind) ≡ Some kind
declaration-known vd.Var = refl
declaration-known _ = refl

method-known : (kind : MethodKind) → method_of (method_word kind) ≡ Some kind
method-known me.Method = refl
method-known _ = refl

meta_prop-known : (kind : MetaPropKind) → meta_prop_of (meta_prop_text kind) ≡ Some kind
meta_prop-known mp.NewTarget = refl
meta_prop-known _ = refl

unary-known : (op : UnaryOp) → unary_of (unary_text op) ≡ Some op
unary-known uo.Minus = refl
unary-known _ = refl

update-known : (op : UpdateOp) → update_of (update_text op) ≡ Some op
update-known up.PlusPlus = refl
update-known _ = refl

binary-known : (op : BinaryOp) → binary_of (binary_text op) ≡ Some op
binary-known bo.EqEq = refl
binary-known _ = refl

assign-known : (op : AssignOp) → assign_of (assign_text op) ≡ Some op
assign-known ao.Assign = refl
assign-known _ = refl

-- A value has one head at most.

abbrev two : {A B C : Type 0} → (A → B → C) → Option A → Option B → Option C
two f None other = None
two f (Some x) other = option_map (f x) other

-- the node of this kind that has the scalars of `d`
abbrev filled : ExportMetadata → Data → Option Head → Option Head
filled meta d None = None
filled meta d (Some (in_item.ImportDecl _)) = Some (in_item.ImportDecl meta)
filled meta d (Some (in_item.NamedExport _)) = Some (in_item.NamedExport meta)
filled meta d (Some (in_item.ExportAll _)) = Some (in_item.ExportAll meta)
filled meta d (Some (in_item.VarDecl _ _)) =
    option_map (λ kind. in_item.VarDecl kind meta) (option_and_then declaration_of (text_at (codes "kind") d))
filled meta d (Some (in_item.IdentName _)) = option_map in_item.IdentName (text_at (codes "sym") d)
filled meta d (Some (in_item.PrivateName _)) = option_map in_item.PrivateName (text_at (codes "sym") d)
filled meta d (Some (in_item.Number _)) = option_map in_item.Number (text_at (codes "raw") d)
filled meta d (Some (in_item.BigInt _)) = option_map in_item.BigInt (text_at (codes "raw") d)
filled meta d (Some (in_item.Regex _)) = option_map in_item.Regex (text_at (codes "raw") d)
filled meta d (Some (in_item.TplElement _)) = option_map in_item.TplElement (text_at (codes "raw") d)
filled meta d (Some (in_item.Bool _)) = option_map in_item.Bool (truth_at (codes "value") d)
filled meta d (Some (in_item.Str _ _)) = two in_item.Str (text_at (codes "value") d) (optional_text_at (codes "raw") d)
filled meta d (Some (in_item.ForOfStmt _)) = option_map in_item.ForOfStmt (truth_at (codes "is_await") d)
filled meta d (Some (in_item.ArrowExpr _)) = option_map in_item.ArrowExpr (truth_at (codes "is_async") d)
filled meta d (Some (in_item.YieldExpr _)) = option_map in_item.YieldExpr (truth_at (codes "delegate") d)
filled meta d (Some (in_item.OptChainExpr _)) = option_map in_item.OptChainExpr (truth_at (codes "optional") d)
filled meta d (Some (in_item.ExprOrSpread _)) = option_map in_item.ExprOrSpread (truth_at (codes "spread") d)
filled meta d (Some (in_item.NewExpr _)) = Some (in_item.NewExpr (is_value_given (codes "args") d))
filled meta d (Some (in_item.Function _ _)) =
    two in_item.Function (truth_at (codes "is_generator") d) (truth_at (codes "is_async") d)
filled meta d (Some (in_item.ClassMethod _ _)) =
    two in_item.ClassMethod (option_and_then method_of (text_at (codes "kind") d)) (truth_at (codes "is_static") d)
filled meta d (Some (in_item.PrivateMethod _ _)) =
    two in_item.PrivateMethod (option_and_then method_of (text_at (codes "kind") d)) (truth_at (codes "is_static") d)
filled meta d (Some (in_item.ClassProp _)) = option_map in_item.ClassProp (truth_at (codes "is_static") d)
filled meta d (Some (in_item.PrivateProp _)) = option_map in_item.PrivateProp (truth_at (codes "is_static") d)
filled meta d (Some (in_item.UnaryExpr _)) = option_map in_item.UnaryExpr (option_and_then unary_of (text_at (codes "op") d))
filled meta d (Some (in_item.UpdateExpr _ _)) =
    two in_item.UpdateExpr (option_and_then update_of (text_at (codes "op") d)) (truth_at (codes "prefix") d)
filled meta d (Some (in_item.BinExpr _)) = option_map in_item.BinExpr (option_and_then binary_of (text_at (codes "op") d))
filled meta d (Some (in_item.AssignExpr _)) = option_map in_item.AssignExpr (option_and_then assign_of (text_at (codes "op") d))
filled meta d (Some (in_item.MetaPropExpr _)) =
    option_map in_item.MetaPropExpr (option_and_then meta_prop_of (text_at (codes "kind") d))
filled meta d (Some kind) = Some kind

told : {A : Type 0} (of : List ℕ → Option A) (found : Option (List ℕ)) (word : List ℕ) (it : A)
    → found ≡ Some word → of word ≡ Some it → option_and_then of found ≡ Some it
told of found word it is known = ap (λ o. option_and_then of o) is ∙ known

both : {A B C : Type 0} (f : A → B → C) (one : Option A) (other : Option B) (x : A) (y : B)
    → one ≡ Some x → other ≡ Some y → two f one other ≡ Some (f x y)
both f one other x y is is_other = rw (is, is_other) refl

by_notes : (meta : ExportMetadata) (d : Data) (kind : Head) → AllByRecursion (IsScalarRead d) (scalars kind) → HasNotes meta kind
    → filled meta d (kind_of (name kind)) ≡ Some kind
unfolding kind_of
by_notes meta d (in_item.ImportDecl it) read noted = ap (λ x. Some (in_item.ImportDecl x)) (sym noted)
by_notes meta d (in_item.NamedExport it) read noted = ap (λ x. Some (in_item.NamedExport x)) (sym noted)
by_notes meta d (in_item.ExportAll it) read noted = ap (λ x. Some (in_item.ExportAll x)) (sym noted)
by_notes meta d (in_item.VarDecl kind it) read noted =
    ap (λ o. option_map (λ k. in_item.VarDecl k meta) o) (told declaration_of _ _ kind read.0 (declaration-known kind))
    ∙ ap (λ x. Some (in_item.VarDecl kind x)) (sym noted)
by_notes meta d (in_item.IdentName sym') read noted = ap (λ o. option_map in_item.IdentName o) read.0
by_notes meta d (in_item.PrivateName sym') read noted = ap (λ o. option_map in_item.PrivateName o) read.0
by_notes meta d (in_item.Number raw) read noted = ap (λ o. option_map in_item.Number o) read.0
by_notes meta d (in_item.BigInt raw) read noted = ap (λ o. option_map in_item.BigInt o) read.0
by_notes meta d (in_item.Regex raw) read noted = ap (λ o. option_map in_item.Regex o) read.0
by_notes meta d (in_item.TplElement raw) read noted = ap (λ o. option_map in_item.TplElement o) read.0
by_notes meta d (in_item.Bool value) read noted = ap (λ o. option_map in_item.Bool o) read.0
by_notes meta d (in_item.Str value raw) read noted = both in_item.Str _ _ value raw read.0 read.1.0
by_notes meta d (in_item.ForOfStmt it) read noted = ap (λ o. option_map in_item.ForOfStmt o) read.0
by_notes meta d (in_item.ArrowExpr it) read noted = ap (λ o. option_map in_item.ArrowExpr o) read.0
by_notes meta d (in_item.YieldExpr it) read noted = ap (λ o. option_map in_item.YieldExpr o) read.0
by_notes meta d (in_item.OptChainExpr it) read noted = ap (λ o. option_map in_item.OptChainExpr o) read.0
by_notes meta d (in_item.ExprOrSpread it) read noted = ap (λ o. option_map in_item.ExprOrSpread o) read.0
by_notes meta d (in_item.NewExpr has_args) read noted = ap (λ b. Some (in_item.NewExpr b)) read.0
by_notes meta d (in_item.Function one other) read noted = both in_item.Function _ _ one other read.0 read.1.0
by_notes meta d (in_item.ClassMethod kind it) read noted =
    both in_item.ClassMethod _ _ kind it (told method_of _ _ kind read.0 (method-known kind)) read.1.0
by_notes meta d (in_item.PrivateMethod kind it) read noted =
    both in_item.PrivateMethod _ _ kind it (told method_of _ _ kind read.0 (method-known kind)) read.1.0
by_notes meta d (in_item.ClassProp it) read noted = ap (λ o. option_map in_item.ClassProp o) read.0
by_notes meta d (in_item.PrivateProp it) read noted = ap (λ o. option_map in_item.PrivateProp o) read.0
by_notes meta d (in_item.UnaryExpr op) read noted =
    ap (λ o. option_map in_item.UnaryExpr o) (told unary_of _ _ op read.0 (unary-known op))
by_notes meta d (in_item.UpdateExpr op it) read noted =
    both in_item.UpdateExpr _ _ op it (told update_of _ _ op read.0 (update-known op)) read.1.0
by_notes meta d (in_item.BinExpr op) read noted =
    ap (λ o. option_map in_item.BinExpr o) (told binary_of _ _ op read.0 (binary-known op))
by_notes meta d (in_item.AssignExpr op) read noted =
    ap (λ o. option_map in_item.AssignExpr o) (told assign_of _ _ op read.0 (assign-known op))
by_notes meta d (in_item.MetaPropExpr kind) read noted =
    ap (λ o. option_map in_item.MetaPropExpr o) (told meta_prop_of _ _ kind read.0 (meta_prop-known kind))
by_notes meta d _ read noted = refl

one_head : (meta : ExportMetadata) (d : Data) (one other : Head) → IsHeadOf meta d one → IsHeadOf meta d other → one ≡ other
one_head meta d one other is is_other =
    let a = is.named in let b = is_other.named in
    let same : name one ≡ name other = cc in
    let e : Some one ≡ Some other
    = sym (by_notes meta d one is.filled is.noted)
    ∙ ap (λ n. filled meta d (kind_of n)) same
    ∙ by_notes meta d other is_other.filled is_other.noted in cc

-- A value is the form of one tree at most.

null_named : (d : Data) (it : List ℕ) → is_null d ≡ true → text_at (codes "type") d ≡ Some it → ⊥
null_named null it is named = cc
null_named (boolean b) it is named = cc
null_named (number n) it is named = cc
null_named (string s) it is named = cc
null_named (array ds) it is named = cc
null_named (object ms) it is named = cc

on_one : {X : Type 0} (P Q : Items → Type 0) (o : Option Items)
    → ((ds : Items) → P ds → Q ds → X) → IsSomeAnd o P → IsSomeAnd o Q → X
on_one P Q None f h g = absurd h
on_one P Q (Some ds) f h g = f ds h g

mutual
  one_tree : (meta : ExportMetadata) (at : NodePlace) (d : Data) (x y : Tree) → Reads meta at d x → Reads meta at d y → x ≡ y
  one_tree meta at d (ident s c r) (ident s' c' r') h g =
      let a = h.symbol in let b = g.symbol in
      let same : s ≡ s' = cc in
      let contexts : c ≡ c' = h.no_context ∙ sym g.no_context in
      let roles : r ≡ r' = h.in_role ∙ sym g.in_role in cc
  one_tree meta at d (ident s c r) hole h g = absurd (null_named d _ g.1 h.named)
  one_tree meta at d (ident s c r) (node head inside) h g =
      let a = h.named in let b = g.0.named in
      let same : name head ≡ codes "Ident" = cc in absurd (not_ident head same)
  one_tree meta at d hole (ident s c r) h g = absurd (null_named d _ h.1 g.named)
  one_tree meta at d hole hole h g = refl
  one_tree meta at d hole (node head inside) h g = absurd (null_named d _ h.1 g.0.named)
  one_tree meta at d (node head inside) (ident s c r) h g =
      let a = g.named in let b = h.0.named in
      let same : name head ≡ codes "Ident" = cc in absurd (not_ident head same)
  one_tree meta at d (node head inside) hole h g = absurd (null_named d _ g.1 h.0.named)
  one_tree meta at d (node head inside) (node other others) h g =
      let same = one_head meta d head other h.0 g.0 in
      let there = one_fields meta at.names d head (node_fields head) inside others h.1
      (subst (λ (k : Head). ReadsFields meta at.names d k (node_fields k) others) (sym same) g.1) in cc

  one_fields : (meta : ExportMetadata) (names : Role) (d : Data) (head : Head) (fs : List Field) (x y : Fields)
      → ReadsFields meta names d head fs x → ReadsFields meta names d head fs y → x ≡ y
  one_fields meta names d head [] no_fields no_fields h g = refl
  one_fields meta names d head [] no_fields (in_field n them rest) h g = absurd g
  one_fields meta names d head [] (in_field n them rest) y h g = absurd h
  one_fields meta names d head (f ∷ fs) no_fields y h g = absurd h
  one_fields meta names d head (f ∷ fs) (in_field n them rest) no_fields h g = absurd g
  one_fields meta names d head (f ∷ fs) (in_field n them rest) (in_field m others more) h g =
      let number : n ≡ m = h.0 ∙ sym g.0 in
      let here : them ≡ others
      = on_one _ _ (values f.shape (get f.key d)) (λ ds. one_each meta (place_in head names d f) ds them others) h.1 g.1 in
      let later = one_fields meta names d head fs rest more h.2 g.2 in cc

  one_each : (meta : ExportMetadata) (at : NodePlace) (ds : Items) (x y : Trees) → ReadsEach meta at ds x → ReadsEach meta at ds y → x ≡ y
  one_each meta at no_items no_trees no_trees h g = refl
  one_each meta at no_items no_trees (tree it rest) h g = absurd g
  one_each meta at no_items (tree it rest) y h g = absurd h
  one_each meta at (item d ds) no_trees y h g = absurd h
  one_each meta at (item d ds) (tree it rest) no_trees h g = absurd g
  one_each meta at (item d ds) (tree it rest) (tree other more) h g =
      let here = one_tree meta at d it other h.0 g.0 in
      let later = one_each meta at ds rest more h.1 g.1 in cc

pub one_list : (meta : ExportMetadata) (at : NodePlace) (d : Data) (x y : List Item) → IsForm meta at d x → IsForm meta at d y → x ≡ y
one_list meta at d x y is is_too =
    is.listed ∙ ap (tree_items at.field) (one_tree meta at d is.it is_too.it is.read is_too.read) ∙ sym is_too.listed

pub one_list_each : (meta : ExportMetadata) (at : NodePlace) (ds : Items) (x y : List Item)
    → AreForms meta at ds x → AreForms meta at ds y → x ≡ y
one_list_each meta at ds x y are are_too =
    are.listed ∙ ap (trees_items at.field) (one_each meta at ds are.them are_too.them are.read are_too.read) ∙ sym are_too.listed

-- What was read is all that can be read.

pub only_read : (meta : ExportMetadata) (at : NodePlace) (d : Data) (old new : List Item) → at ≡ top → old ≡ []
    → GrowsBy (IsForm meta at d) old new → (other : List Item) → IsForm meta top d other → other ≡ new
only_read meta at d old new same empty grows other is =
    one_list meta top d other grows.added is (subst (λ (x : NodePlace). IsForm meta x d grows.added) same grows.holds)
    ∙ sym (ap (λ l. l ++ grows.added) empty) ∙ sym grows.grown

only_there : (ds : Items) (meta : ExportMetadata) (new : List Item) (o : Option Items) → o ≡ Some ds → AreForms meta top ds new
    → (other : List Item) → IsSomeAnd o (λ forms. AreForms meta top forms other) → other ≡ new
only_there ds meta new None is are other are_too = absurd are_too
only_there ds meta new (Some es) is are other are_too =
    let same : es ≡ ds = cc in
    one_list_each meta top ds other new (subst (λ (x : Items). AreForms meta top x other) same are_too) are

pub only_read_each : (meta : ExportMetadata) (at : NodePlace) (d : Data) (ds : Items) (old new : List Item) → at ≡ top → old ≡ []
    → as_array d ≡ Some ds → GrowsBy (AreForms meta at ds) old new
    → (other : List Item) → IsSomeAnd (as_array d) (λ forms. AreForms meta top forms other) → other ≡ new
only_read_each meta at d ds old new same empty is grows other are =
    only_there ds meta grows.added (as_array d) is (subst (λ (x : NodePlace). AreForms meta x ds grows.added) same grows.holds) other are
    ∙ sym (ap (λ l. l ++ grows.added) empty) ∙ sym grows.grown
