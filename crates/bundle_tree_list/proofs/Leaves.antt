-- Names, literals and kinds are equal exactly where what their lists show of them is.
use Rattle.std.proofs.Common.{◌≡◌, ℕ, Bool, true, false, ◌&&◌, refl, sym, ap, ap₂, ◌∙◌, List, [], ◌∷◌, Option, Some, None, option_map, string_bytes, true≢false, String, Global}
use Rattle.std.specs.Bool.{Decides}
use Rattle.std.specs.Option.{option_eq}
use Rattle.std.specs.String.{string_eq}
use Rattle.std.proofs.lemmas.Bool.Decides.{Decides-eqb}
use denote.Enum.Compared.{Each, by}
use lib.Pointwise.{bytes_decides}
use mathlib.Core.Bool.{beq}
use Rattle.bundle_syntax.specs.declared.ident.Ident as v_ident
use Rattle.bundle_syntax.specs.declared.ident.IdentName as v_ident_name
use Rattle.bundle_syntax.specs.declared.ident.PrivateName as v_private_name
use Rattle.bundle_syntax.specs.declared.ident.BindingIdent as v_binding_ident
use Rattle.bundle_syntax.specs.declared.lit.Str as v_str
use Rattle.bundle_syntax.specs.declared.lit.Number as v_number
use Rattle.bundle_syntax.specs.declared.lit.BigInt as v_big_int
use Rattle.bundle_syntax.specs.declared.lit.Regex as v_regex
use Rattle.bundle_syntax.specs.declared.lit.Lit as v_lit
use Rattle.bundle_syntax.specs.declared.lit.Lit.TheVariants as i_lit
use Rattle.bundle_syntax.specs.declared.lit.TplElement as v_tpl_element
use Rattle.bundle_syntax.specs.declared.kind.ExportMetadata as v_meta
use Rattle.bundle_syntax.specs.declared.kind.MetaPropKind as v_meta_prop
use Rattle.bundle_syntax.specs.declared.kind.MethodKind as v_method
use Rattle.bundle_syntax.specs.declared.kind.VarDeclKind as v_var
use Rattle.bundle_syntax.specs.declared.operator.AssignOp as v_assign
use Rattle.bundle_syntax.specs.declared.operator.BinaryOp as v_binary
use Rattle.bundle_syntax.specs.declared.operator.UnaryOp as v_unary
use Rattle.bundle_syntax.specs.declared.operator.UpdateOp as v_update
use Rattle.bundle_syntax.specs.contracts.kind.MetaPropKind as c_meta_prop
use Rattle.bundle_syntax.specs.contracts.kind.MethodKind as c_method
use Rattle.bundle_syntax.specs.contracts.kind.VarDeclKind as c_var
use Rattle.bundle_syntax.specs.contracts.operator.AssignOp as c_assign
use Rattle.bundle_syntax.specs.contracts.operator.BinaryOp as c_binary
use Rattle.bundle_syntax.specs.contracts.operator.UnaryOp as c_unary
use Rattle.bundle_syntax.specs.contracts.operator.UpdateOp as c_update
use Rattle.bundle_syntax.specs.contracts.lit.Lit as c_lit
use Rattle.bundle_syntax.specs.contracts.kind.ExportMetadataPartialEq.TheImpl as e_meta
use Rattle.bundle_syntax.specs.contracts.kind.MetaPropKindPartialEq.TheImpl as e_meta_prop
use Rattle.bundle_syntax.specs.contracts.kind.MethodKindPartialEq.TheImpl as e_method
use Rattle.bundle_syntax.specs.contracts.kind.VarDeclKindPartialEq.TheImpl as e_var
use Rattle.bundle_syntax.specs.contracts.operator.AssignOpPartialEq.TheImpl as e_assign
use Rattle.bundle_syntax.specs.contracts.operator.BinaryOpPartialEq.TheImpl as e_binary
use Rattle.bundle_syntax.specs.contracts.operator.UnaryOpPartialEq.TheImpl as e_unary
use Rattle.bundle_syntax.specs.contracts.operator.UpdateOpPartialEq.TheImpl as e_update
use Rattle.bundle_syntax.specs.contracts.ident.IdentPartialEq.TheImpl as e_ident
use Rattle.bundle_syntax.specs.contracts.ident.IdentNamePartialEq.TheImpl as e_ident_name
use Rattle.bundle_syntax.specs.contracts.ident.PrivateNamePartialEq.TheImpl as e_private_name
use Rattle.bundle_syntax.specs.contracts.ident.BindingIdentPartialEq.TheImpl as e_binding_ident
use Rattle.bundle_syntax.specs.contracts.lit.StrPartialEq.TheImpl as e_str
use Rattle.bundle_syntax.specs.contracts.lit.NumberPartialEq.TheImpl as e_number
use Rattle.bundle_syntax.specs.contracts.lit.BigIntPartialEq.TheImpl as e_big_int
use Rattle.bundle_syntax.specs.contracts.lit.RegexPartialEq.TheImpl as e_regex
use Rattle.bundle_syntax.specs.contracts.lit.LitPartialEq.TheImpl as e_lit
use Rattle.bundle_syntax.specs.contracts.lit.TplElementPartialEq.TheImpl as e_tpl_element
use Rattle.bundle_syntax.specs.declared.piece.Role.{Role}
use Rattle.bundle_syntax.specs.Item as h
use Rattle.bundle_syntax.specs.Item.{Item, Head}
use Rattle.bundle_tree_listed.specs.Tree as k
use Rattle.bundle_tree_listed.specs.Tree.{node}
use Rattle.bundle_tree_list.proofs.Agree.{Both, kinds, nth, variants}
use Rattle.bundle_tree_list.proofs.Cut as cut
use Rattle.bundle_tree_list.proofs.Part.{Part, instead, both, bare, in_node, just}
use Rattle.bundle_tree_list.proofs.Rows as rows

-- Operators and kinds.

pub unary : (d e : v_unary.UnaryOp) → Decides (e_unary.ghosts.eq d e) (d ≡ e)
unary d e = kinds c_unary.enum tt d e refl

pub update : (d e : v_update.UpdateOp) → Decides (e_update.ghosts.eq d e) (d ≡ e)
update d e = kinds c_update.enum tt d e refl

pub binary : (d e : v_binary.BinaryOp) → Decides (e_binary.ghosts.eq d e) (d ≡ e)
binary d e = kinds c_binary.enum tt d e refl

pub assign : (d e : v_assign.AssignOp) → Decides (e_assign.ghosts.eq d e) (d ≡ e)
assign d e = kinds c_assign.enum tt d e refl

pub meta_prop : (d e : v_meta_prop.MetaPropKind) → Decides (e_meta_prop.ghosts.eq d e) (d ≡ e)
meta_prop d e = kinds c_meta_prop.enum tt d e refl

pub method : (d e : v_method.MethodKind) → Decides (e_method.ghosts.eq d e) (d ≡ e)
method d e = kinds c_method.enum tt d e refl

pub var : (d e : v_var.VarDeclKind) → Decides (e_var.ghosts.eq d e) (d ≡ e)
var d e = kinds c_var.enum tt d e refl

pub truth : (a b : Bool) → Decides (beq a b) (a ≡ b)
truth true true = (λ so. refl, λ is. refl)
truth true false = (λ so. sym so, λ is. sym is)
truth false true = (λ so. so, λ is. is)
truth false false = (λ so. refl, λ is. refl)

pub text : (a b : String Global) → Decides (string_eq a b) (string_bytes a ≡ string_bytes b)
text a b = bytes_decides (string_bytes a) (string_bytes b)

-- what stands in two options, seen through a function that tells as much as the test
is_some_of : {B : Type 0} → Option B → Bool
is_some_of (Some y) = true
is_some_of None = false

some_of : {B : Type 0} → B → Option B → B
some_of other (Some y) = y
some_of other None = other

pub option : {A B : Type 0} (E : A → A → Bool) (f : A → B) → ((x y : A) → Decides (E x y) (f x ≡ f y)) → (a b : Option A) → Decides (option_eq E a b) (option_map f a ≡ option_map f b)
unfolding is_some_of some_of
option E f each None None = (λ so. refl, λ is. refl)
option E f each None (Some y) = (λ wrong. absurd (true≢false (sym wrong)), λ is. absurd (true≢false (sym (ap is_some_of is))))
option E f each (Some x) None = (λ wrong. absurd (true≢false (sym wrong)), λ is. absurd (true≢false (ap is_some_of is)))
option E f each (Some x) (Some y) = instead (ap Some) (ap (some_of (f x))) (each x y)

same_option : {A : Type 0} (a : Option A) → option_map (λ x. x) a ≡ a
same_option None = refl
same_option (Some x) = refl

pub meta : (d e : v_meta.ExportMetadata) → Decides (e_meta.ghosts.eq d e) (d ≡ e)
meta d e = instead
    (λ p i. record { injected = p.0 i; export_ctxt = (sym (same_option d.export_ctxt) ∙ (p.1 ∙ same_option e.export_ctxt)) i })
    (λ is. (ap (λ it. it.injected) is, ap (λ it. option_map (λ x. x) it.export_ctxt) is))
    (both (truth d.injected e.injected) (option _ (λ x. x) Decides-eqb d.export_ctxt e.export_ctxt))

-- Names.

sym_of : List ℕ → List Item → List ℕ
sym_of other (h.Ident f name ctxt role ∷ rest) = name
sym_of other list = other

ctxt_of : ℕ → List Item → ℕ
ctxt_of other (h.Ident f name ctxt role ∷ rest) = ctxt
ctxt_of other list = other

pub ident : (role : Role) (field : ℕ) (d e : v_ident.Ident) → Part field (e_ident.ghosts.eq d e) (k.ident_items role field d) (k.ident_items role field e)
unfolding sym_of ctxt_of
ident role field d e = record {
  left = cut.ident field _ _ role;
  right = cut.ident field _ _ role;
  same = instead (λ p. ap₂ (λ name ctxt. h.Ident field name ctxt role ∷ []) p.0 p.1) (λ is. (ap (sym_of (string_bytes d.sym)) is, ap (ctxt_of d.ctxt) is)) (both (text d.sym e.sym) (Decides-eqb d.ctxt e.ctxt));
}

-- Values in the beginnings of nodes.

text_of : List ℕ → Head → List ℕ
text_of other (h.IdentName value) = value
text_of other (h.PrivateName value) = value
text_of other (h.Str value raw) = value
text_of other (h.Number value) = value
text_of other (h.BigInt value) = value
text_of other (h.Regex value) = value
text_of other (h.TplElement value) = value
text_of other head = other

raw_of : Option (List ℕ) → Head → Option (List ℕ)
raw_of other (h.Str value raw) = raw
raw_of other head = other

flag_of : Bool → Head → Bool
flag_of other (h.Bool value) = value
flag_of other (h.ForOfStmt value) = value
flag_of other (h.ArrowExpr value) = value
flag_of other (h.YieldExpr value) = value
flag_of other (h.OptChainExpr value) = value
flag_of other (h.ExprOrSpread value) = value
flag_of other (h.ClassProp value) = value
flag_of other (h.PrivateProp value) = value
flag_of other (h.NewExpr value) = value
flag_of other (h.UpdateExpr op value) = value
flag_of other (h.Function value is_async) = value
flag_of other (h.ClassMethod kind value) = value
flag_of other (h.PrivateMethod kind value) = value
flag_of other head = other

is_async_of : Bool → Head → Bool
is_async_of other (h.Function is_generator is_async) = is_async
is_async_of other head = other

unary_of : v_unary.UnaryOp → Head → v_unary.UnaryOp
unary_of other (h.UnaryExpr op) = op
unary_of other head = other

update_of : v_update.UpdateOp → Head → v_update.UpdateOp
update_of other (h.UpdateExpr op prefix) = op
update_of other head = other

binary_of : v_binary.BinaryOp → Head → v_binary.BinaryOp
binary_of other (h.BinExpr op) = op
binary_of other head = other

assign_of : v_assign.AssignOp → Head → v_assign.AssignOp
assign_of other (h.AssignExpr op) = op
assign_of other head = other

meta_prop_of : v_meta_prop.MetaPropKind → Head → v_meta_prop.MetaPropKind
meta_prop_of other (h.MetaPropExpr kind) = kind
meta_prop_of other head = other

method_of : v_method.MethodKind → Head → v_method.MethodKind
method_of other (h.ClassMethod kind is_static) = kind
method_of other (h.PrivateMethod kind is_static) = kind
method_of other head = other

var_of : v_var.VarDeclKind → Head → v_var.VarDeclKind
var_of other (h.VarDecl kind meta) = kind
var_of other head = other

meta_of : v_meta.ExportMetadata → Head → v_meta.ExportMetadata
meta_of other (h.VarDecl kind meta) = meta
meta_of other (h.ImportDecl meta) = meta
meta_of other (h.NamedExport meta) = meta
meta_of other (h.ExportAll meta) = meta
meta_of other head = other

pub for_of_head : (a b : Bool) → Decides (beq a b) (h.ForOfStmt a ≡ h.ForOfStmt b)
unfolding flag_of
for_of_head a b = instead (ap h.ForOfStmt) (ap (flag_of a)) (truth a b)

pub arrow_head : (a b : Bool) → Decides (beq a b) (h.ArrowExpr a ≡ h.ArrowExpr b)
unfolding flag_of
arrow_head a b = instead (ap h.ArrowExpr) (ap (flag_of a)) (truth a b)

pub yield_head : (a b : Bool) → Decides (beq a b) (h.YieldExpr a ≡ h.YieldExpr b)
unfolding flag_of
yield_head a b = instead (ap h.YieldExpr) (ap (flag_of a)) (truth a b)

pub opt_chain_head : (a b : Bool) → Decides (beq a b) (h.OptChainExpr a ≡ h.OptChainExpr b)
unfolding flag_of
opt_chain_head a b = instead (ap h.OptChainExpr) (ap (flag_of a)) (truth a b)

pub expr_or_spread_head : (a b : Bool) → Decides (beq a b) (h.ExprOrSpread a ≡ h.ExprOrSpread b)
unfolding flag_of
expr_or_spread_head a b = instead (ap h.ExprOrSpread) (ap (flag_of a)) (truth a b)

pub class_prop_head : (a b : Bool) → Decides (beq a b) (h.ClassProp a ≡ h.ClassProp b)
unfolding flag_of
class_prop_head a b = instead (ap h.ClassProp) (ap (flag_of a)) (truth a b)

pub private_prop_head : (a b : Bool) → Decides (beq a b) (h.PrivateProp a ≡ h.PrivateProp b)
unfolding flag_of
private_prop_head a b = instead (ap h.PrivateProp) (ap (flag_of a)) (truth a b)

pub flag_of_new : {a b : Bool} → h.NewExpr a ≡ h.NewExpr b → a ≡ b
unfolding flag_of
flag_of_new {a = a} is = ap (flag_of a) is

pub unary_head : (a b : v_unary.UnaryOp) → Decides (e_unary.ghosts.eq a b) (h.UnaryExpr a ≡ h.UnaryExpr b)
unfolding unary_of
unary_head a b = instead (ap h.UnaryExpr) (ap (unary_of a)) (unary a b)

pub update_head : (a b : v_update.UpdateOp) (p q : Bool) → Decides (e_update.ghosts.eq a b && beq p q) (h.UpdateExpr a p ≡ h.UpdateExpr b q)
unfolding update_of flag_of
update_head a b p q = instead (λ is. ap₂ h.UpdateExpr is.0 is.1) (λ is. (ap (update_of a) is, ap (flag_of p) is)) (both (update a b) (truth p q))

pub binary_head : (a b : v_binary.BinaryOp) → Decides (e_binary.ghosts.eq a b) (h.BinExpr a ≡ h.BinExpr b)
unfolding binary_of
binary_head a b = instead (ap h.BinExpr) (ap (binary_of a)) (binary a b)

pub assign_head : (a b : v_assign.AssignOp) → Decides (e_assign.ghosts.eq a b) (h.AssignExpr a ≡ h.AssignExpr b)
unfolding assign_of
assign_head a b = instead (ap h.AssignExpr) (ap (assign_of a)) (assign a b)

pub meta_prop_head : (a b : v_meta_prop.MetaPropKind) → Decides (e_meta_prop.ghosts.eq a b) (h.MetaPropExpr a ≡ h.MetaPropExpr b)
unfolding meta_prop_of
meta_prop_head a b = instead (ap h.MetaPropExpr) (ap (meta_prop_of a)) (meta_prop a b)

pub class_method_head : (a b : v_method.MethodKind) (p q : Bool) → Decides (e_method.ghosts.eq a b && beq p q) (h.ClassMethod a p ≡ h.ClassMethod b q)
unfolding method_of flag_of
class_method_head a b p q = instead (λ is. ap₂ h.ClassMethod is.0 is.1) (λ is. (ap (method_of a) is, ap (flag_of p) is)) (both (method a b) (truth p q))

pub private_method_head : (a b : v_method.MethodKind) (p q : Bool) → Decides (e_method.ghosts.eq a b && beq p q) (h.PrivateMethod a p ≡ h.PrivateMethod b q)
unfolding method_of flag_of
private_method_head a b p q = instead (λ is. ap₂ h.PrivateMethod is.0 is.1) (λ is. (ap (method_of a) is, ap (flag_of p) is)) (both (method a b) (truth p q))

pub function_head : (a b p q : Bool) → Decides (beq a b && beq p q) (h.Function a p ≡ h.Function b q)
unfolding flag_of is_async_of
function_head a b p q = instead (λ is. ap₂ h.Function is.0 is.1) (λ is. (ap (flag_of a) is, ap (is_async_of p) is)) (both (truth a b) (truth p q))

pub var_head : (a b : v_var.VarDeclKind) (p q : v_meta.ExportMetadata) → Decides (e_var.ghosts.eq a b && e_meta.ghosts.eq p q) (h.VarDecl a p ≡ h.VarDecl b q)
unfolding var_of meta_of
var_head a b p q = instead (λ is. ap₂ h.VarDecl is.0 is.1) (λ is. (ap (var_of a) is, ap (meta_of p) is)) (both (var a b) (meta p q))

pub import_head : (p q : v_meta.ExportMetadata) → Decides (e_meta.ghosts.eq p q) (h.ImportDecl p ≡ h.ImportDecl q)
unfolding meta_of
import_head p q = instead (ap h.ImportDecl) (ap (meta_of p)) (meta p q)

pub named_export_head : (p q : v_meta.ExportMetadata) → Decides (e_meta.ghosts.eq p q) (h.NamedExport p ≡ h.NamedExport q)
unfolding meta_of
named_export_head p q = instead (ap h.NamedExport) (ap (meta_of p)) (meta p q)

pub export_all_head : (p q : v_meta.ExportMetadata) → Decides (e_meta.ghosts.eq p q) (h.ExportAll p ≡ h.ExportAll q)
unfolding meta_of
export_all_head p q = instead (ap h.ExportAll) (ap (meta_of p)) (meta p q)

pub ident_name : (field : ℕ) (d e : v_ident_name.IdentName) → Part field (e_ident_name.ghosts.eq d e) (k.ident_name_items field d) (k.ident_name_items field e)
unfolding text_of
ident_name field d e = bare field (instead (ap h.IdentName) (ap (text_of (string_bytes d.sym))) (text d.sym e.sym))

pub private_name : (field : ℕ) (d e : v_private_name.PrivateName) → Part field (e_private_name.ghosts.eq d e) (k.private_name_items field d) (k.private_name_items field e)
unfolding text_of
private_name field d e = bare field (instead (ap h.PrivateName) (ap (text_of (string_bytes d.sym))) (text d.sym e.sym))

pub binding_ident : (role : Role) (field : ℕ) (d e : v_binding_ident.BindingIdent) → Part field (e_binding_ident.ghosts.eq d e) (k.binding_ident_items role field d) (k.binding_ident_items role field e)
binding_ident role field d e = in_node field _ (just (ident role 0 d.id e.id))

pub str : (field : ℕ) (d e : v_str.Str) → Part field (e_str.ghosts.eq d e) (k.str_items field d) (k.str_items field e)
unfolding text_of raw_of
str field d e = bare field (instead (λ p. ap₂ h.Str p.0 p.1) (λ is. (ap (text_of (string_bytes d.value)) is, ap (raw_of (option_map string_bytes d.raw)) is)) (both (text d.value e.value) (option _ string_bytes text d.raw e.raw)))

pub number : (field : ℕ) (d e : v_number.Number) → Part field (e_number.ghosts.eq d e) (k.number_items field d) (k.number_items field e)
unfolding text_of
number field d e = bare field (instead (ap h.Number) (ap (text_of (string_bytes d.raw))) (text d.raw e.raw))

pub big_int : (field : ℕ) (d e : v_big_int.BigInt) → Part field (e_big_int.ghosts.eq d e) (k.big_int_items field d) (k.big_int_items field e)
unfolding text_of
big_int field d e = bare field (instead (ap h.BigInt) (ap (text_of (string_bytes d.raw))) (text d.raw e.raw))

pub regex : (field : ℕ) (d e : v_regex.Regex) → Part field (e_regex.ghosts.eq d e) (k.regex_items field d) (k.regex_items field e)
unfolding text_of
regex field d e = bare field (instead (ap h.Regex) (ap (text_of (string_bytes d.raw))) (text d.raw e.raw))

pub tpl_element : (field : ℕ) (d e : v_tpl_element.TplElement) → Part field (e_tpl_element.ghosts.eq d e) (k.tpl_element_items field d) (k.tpl_element_items field e)
unfolding text_of
tpl_element field d e = bare field (instead (ap h.TplElement) (ap (text_of (string_bytes d.raw))) (text d.raw e.raw))

lit_number : List Item → ℕ
lit_number (h.Open f (h.Str value raw) ∷ rest) = 0
lit_number (h.Open f (h.Bool value) ∷ rest) = 1
lit_number (h.Open f h.Null ∷ rest) = 2
lit_number (h.Open f (h.Number value) ∷ rest) = 3
lit_number (h.Open f (h.BigInt value) ∷ rest) = 4
lit_number (h.Open f (h.Regex value) ∷ rest) = 5
lit_number list = 6

lit_numbered : (field : ℕ) (it : v_lit.Lit) → lit_number (k.lit_items field it) ≡ nth c_lit.enum.parts (c_lit.enum.as_values it)
unfolding lit_number
lit_numbered field (i_lit.Str it) = refl
lit_numbered field (i_lit.Bool value) = refl
lit_numbered field i_lit.Null = refl
lit_numbered field (i_lit.Number it) = refl
lit_numbered field (i_lit.BigInt it) = refl
lit_numbered field (i_lit.Regex it) = refl

lit_each : Each Bool c_lit.enum.parts
lit_each = (λ a b. e_str.ghosts.eq a.0 b.0, (λ a b. beq a.0 b.0, (λ a b. true, (λ a b. e_number.ghosts.eq a.0 b.0, (λ a b. e_big_int.ghosts.eq a.0 b.0, (λ a b. e_regex.ghosts.eq a.0 b.0, tt))))))

lit_is : (d e : v_lit.Lit) → e_lit.ghosts.eq d e ≡ by false false c_lit.enum.parts lit_each (c_lit.enum.as_values d) (c_lit.enum.as_values e)
unfolding lit_each
lit_is d e = refl

lit_of : (field : ℕ) (d e : v_lit.Lit) → Both c_lit.enum.parts lit_each (c_lit.enum.as_values d) (λ c t. Part field t (k.lit_items field d) (k.lit_items field (c_lit.enum.make c))) → Part field (e_lit.ghosts.eq d e) (k.lit_items field d) (k.lit_items field e)
lit_of field d e = variants c_lit.enum lit_each (k.lit_items field) (rows.lit_row field) lit_number (lit_numbered field) d e (lit_is d e)

pub lit : (field : ℕ) (d e : v_lit.Lit) → Part field (e_lit.ghosts.eq d e) (k.lit_items field d) (k.lit_items field e)
unfolding flag_of lit_each
lit field (i_lit.Str it) e = lit_of field (i_lit.Str it) e (λ y. str field it y.0)
lit field (i_lit.Bool value) e = lit_of field (i_lit.Bool value) e (λ y. bare field (instead (ap h.Bool) (ap (flag_of value)) (truth value y.0)))
lit field i_lit.Null e = lit_of field i_lit.Null e (λ y. bare field (λ so. refl, λ is. refl))
lit field (i_lit.Number it) e = lit_of field (i_lit.Number it) e (λ y. number field it y.0)
lit field (i_lit.BigInt it) e = lit_of field (i_lit.BigInt it) e (λ y. big_int field it y.0)
lit field (i_lit.Regex it) e = lit_of field (i_lit.Regex it) e (λ y. regex field it y.0)
