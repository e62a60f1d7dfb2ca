-- What is short, spelled out or not.
use Rattle.std.proofs.Common.{◌≡◌, ℕ, true, false, List, [], ◌∷◌, ◌++◌, Option, Some, None, sym, subst, refl, ap, ◌∙◌, string_bytes, drop, if◌then◌else◌, Box, Global, bytes_eq, codes, option_map}
use Rattle.bundle_syntax.specs.declared.ident.Ident as v_ident
use Rattle.bundle_syntax.specs.declared.ident.BindingIdent as v_binding_ident
use Rattle.bundle_syntax.specs.declared.ident.IdentName as v_ident_name
use Rattle.bundle_syntax.specs.declared.lit.Str as v_str
use Rattle.bundle_syntax.specs.declared.lit.Lit.TheVariants as i_lit
use Rattle.bundle_tree_ast.specs.declared.prop.ComputedPropName as v_computed
use Rattle.bundle_tree_ast.specs.declared.prop.PropName.TheVariants as i_prop_name
use Rattle.bundle_tree_ast.specs.declared.expr.Expr as v_expr
use Rattle.bundle_tree_ast.specs.declared.pat.Pat as v_pat
use Rattle.bundle_tree_ast.specs.declared.pat.ObjectPatProp as v_object_pat_prop
use Rattle.bundle_tree_ast.specs.declared.prop.Prop as v_prop
use Rattle.bundle_tree_ast.specs.declared.prop.PropName as v_prop_name
use Rattle.bundle_syntax.specs.declared.piece.Role.{Role}
use Rattle.bundle_syntax.specs.declared.piece.Role.TheVariants as r
use Rattle.bundle_syntax.specs.Item as h
use Rattle.bundle_syntax.specs.Item.{Item}
use Rattle.bundle_tree_listed.specs.Tree as k
use Rattle.bundle_tree_listed.specs.Tree.{node, stmt_items}
use Rattle.bundle_rules.specs.Rebuilds.{Change, key_in_object, plain_key, spells_out}
use Rattle.bundle_tree_places.specs.Edits.{Anywhere, InObject, is_occurrence, renamed, in_its_place, binding, pattern_in_its_place, shorthand_in_its_place}
use Rattle.bundle_tree_rename.specs.Renames.{Renames, Name, Shorthand}
use Rattle.bundle_tree_rename.specs.Naming.{Naming, next}
use Rattle.bundle_tree_rename.specs.Renamed.{Renamed, RenamedPattern, Takes}
use Rattle.bundle_tree_rename.specs.Parts.{with_default_items}

-- an edit by what it makes
made_so : {names rest : List Naming} {before made other : List Item} (around : _) → made ≡ other → Renames around names before made rest → Renames around names before other rest
made_so {names = names} {rest = rest} {before = before} around is edit = subst (λ it. Renames around names before it rest) is edit

-- an occurrence by what it leaves
left_so : {names rest : List Naming} {before made : List Item} (around : _) → rest ≡ drop 1 names → Renames around names before made (drop 1 names) → Renames around names before made rest
left_so {names = names} {before = before} {made = made} around is edit = subst (λ it. Renames around names before made it) (sym is) edit

-- a shorthand of an object literal that is spelled out
pub prop-spelled_out : {names rest : List Naming} {it name : v_ident.Ident} (key : v_prop_name.PropName v_expr.Expr) → Takes names it name rest → spells_out (next names (string_bytes it.sym) it.ctxt) ≡ true → k.prop_name_items 0 key ≡ key_in_object (string_bytes it.sym) → Renamed InObject k.prop_items names (v_prop.Shorthand it) (v_prop.KeyValueProp (record { key = key; value = v_expr.Ident name })) rest
unfolding stmt_items
prop-spelled_out {names = names} {it = it} {name = name} key taken spelled key_is = record {
  in_field = λ field.
      let x : List ℕ = string_bytes it.sym in
      let pair : List Item = node field h.KeyValueProp (key_in_object x ++ renamed (next names (string_bytes it.sym) it.ctxt) 1 x it.ctxt r.Reference ∷ []) in
      let place : in_its_place InObject (next names (string_bytes it.sym) it.ctxt) field x it.ctxt r.Reference ≡ pair = ap (λ s. if s then pair else renamed (next names (string_bytes it.sym) it.ctxt) field x it.ctxt r.Reference ∷ []) spelled in
      let with_name : pair ≡ node field h.KeyValueProp (key_in_object x ++ k.ident_items r.Reference 1 name) = ap (λ list. node field h.KeyValueProp (key_in_object x ++ list)) (sym (taken.renamed_is 1 r.Reference)) in
      let with_key : node field h.KeyValueProp (key_in_object x ++ k.ident_items r.Reference 1 name) ≡ node field h.KeyValueProp (k.prop_name_items 0 key ++ k.ident_items r.Reference 1 name) = ap (λ list. node field h.KeyValueProp (list ++ k.ident_items r.Reference 1 name)) (sym key_is) in
      left_so InObject taken.rest_is (made_so InObject (place ∙ (with_name ∙ with_key)) (Name InObject field x it.ctxt r.Reference refl));
}

-- one that stays short
pub prop-stays : {names rest : List Naming} {it name : v_ident.Ident} → Takes names it name rest → spells_out (next names (string_bytes it.sym) it.ctxt) ≡ false → Renamed InObject k.prop_items names (v_prop.Shorthand it) (v_prop.Shorthand name) rest
unfolding stmt_items
prop-stays {names = names} {it = it} {name = name} taken stays = record {
  in_field = λ field.
      let x : List ℕ = string_bytes it.sym in
      let pair : List Item = node field h.KeyValueProp (key_in_object x ++ renamed (next names (string_bytes it.sym) it.ctxt) 1 x it.ctxt r.Reference ∷ []) in
      let place : in_its_place InObject (next names (string_bytes it.sym) it.ctxt) field x it.ctxt r.Reference ≡ renamed (next names (string_bytes it.sym) it.ctxt) field x it.ctxt r.Reference ∷ [] = ap (λ s. if s then pair else renamed (next names (string_bytes it.sym) it.ctxt) field x it.ctxt r.Reference ∷ []) stays in
      left_so InObject taken.rest_is (made_so InObject (place ∙ sym (taken.renamed_is field r.Reference)) (Name InObject field x it.ctxt r.Reference refl));
}

-- the list of an expression is never empty, so that a default value is seen
with_expr : (change : Option Change) (x : List ℕ) (ctxt : ℕ) (role : Role) (it : v_expr.Expr) → pattern_in_its_place change x ctxt role (k.expr_items 1 it) ≡ node 1 h.AssignPat (binding change 0 x ctxt role ++ k.expr_items 1 it)
unfolding stmt_items
with_expr change x ctxt role v_expr.ThisExpr = refl
with_expr change x ctxt role (v_expr.ArrayLit' _ _) = refl
with_expr change x ctxt role (v_expr.ObjectLit' _ _) = refl
with_expr change x ctxt role (v_expr.FnExpr' _ _ _ _ _ _ _) = refl
with_expr change x ctxt role (v_expr.UnaryExpr' _ _ _) = refl
with_expr change x ctxt role (v_expr.UpdateExpr' _ _ _ _) = refl
with_expr change x ctxt role (v_expr.BinExpr' _ _ _ _ _) = refl
with_expr change x ctxt role (v_expr.AssignExpr' _ _ _ _) = refl
with_expr change x ctxt role (v_expr.MemberExpr' _ _ _) = refl
with_expr change x ctxt role (v_expr.SuperPropExpr' _) = refl
with_expr change x ctxt role (v_expr.CondExpr' _ _ _ _ _ _) = refl
with_expr change x ctxt role (v_expr.CallExpr' _ _ _) = refl
with_expr change x ctxt role (v_expr.NewExpr' _ _ _) = refl
with_expr change x ctxt role (v_expr.SeqExpr' _ _) = refl
with_expr change x ctxt role (v_expr.Ident _) = refl
with_expr change x ctxt role (v_expr.Lit (i_lit.Str _)) = refl
with_expr change x ctxt role (v_expr.Lit (i_lit.Bool _)) = refl
with_expr change x ctxt role (v_expr.Lit i_lit.Null) = refl
with_expr change x ctxt role (v_expr.Lit (i_lit.Number _)) = refl
with_expr change x ctxt role (v_expr.Lit (i_lit.BigInt _)) = refl
with_expr change x ctxt role (v_expr.Lit (i_lit.Regex _)) = refl
with_expr change x ctxt role (v_expr.Tpl' _ _ _) = refl
with_expr change x ctxt role (v_expr.TaggedTpl' _ _ _ _ _) = refl
with_expr change x ctxt role (v_expr.ArrowExpr' _ _ _ _) = refl
with_expr change x ctxt role (v_expr.ClassExpr' _ _ _ _) = refl
with_expr change x ctxt role (v_expr.YieldExpr' _ _) = refl
with_expr change x ctxt role (v_expr.MetaPropExpr _) = refl
with_expr change x ctxt role (v_expr.AwaitExpr' _ _) = refl
with_expr change x ctxt role (v_expr.ParenExpr' _ _) = refl
with_expr change x ctxt role (v_expr.PrivateName _) = refl
with_expr change x ctxt role (v_expr.OptChainExpr' _ _) = refl

-- the pattern that a name is spelled out with, with its default value if it has one
pattern_is : {names rest : List Naming} {key name : v_binding_ident.BindingIdent} → Takes names key.id name.id rest → (role : Role) (value : Option v_expr.Expr) → pattern_in_its_place (next names (string_bytes key.id.sym) key.id.ctxt) (string_bytes key.id.sym) key.id.ctxt role (k.option_expr_items 1 value) ≡ with_default_items role 1 (v_pat.BindingIdent name) value
unfolding stmt_items
pattern_is {names = names} {key = key} {name = name} taken role None = ap (λ list. node 1 h.BindingIdent list) (sym (taken.renamed_is 0 role))
pattern_is {names = names} {key = key} {name = name} taken role (Some it) = with_expr (next names (string_bytes key.id.sym) key.id.ctxt) (string_bytes key.id.sym) key.id.ctxt role it ∙ ap (λ list. node 1 h.AssignPat (node 0 h.BindingIdent list ++ k.expr_items 1 it)) (sym (taken.renamed_is 0 role))

-- a shorthand property of a pattern, made as its clause says
shorthand_so : {names between rest : List Naming} {key name : v_binding_ident.BindingIdent} {value value' : Option v_expr.Expr} → Takes names key.id name.id between → Renamed Anywhere k.option_expr_items between value value' rest → (role : Role) → is_occurrence role ≡ true → (field : ℕ) → Renames Anywhere names (k.object_pat_prop_items role field (v_object_pat_prop.AssignPatProp key value)) (shorthand_in_its_place (next names (string_bytes key.id.sym) key.id.ctxt) field (string_bytes key.id.sym) key.id.ctxt role (k.option_expr_items 1 value')) rest
unfolding stmt_items
shorthand_so {names = names} {rest = rest} {key = key} {value = value} {value' = value'} taken default role occurs field =
    Shorthand field (string_bytes key.id.sym) key.id.ctxt role occurs (subst (λ left. Renames Anywhere left (k.option_expr_items 1 value) (k.option_expr_items 1 value') rest) taken.rest_is (default.in_field 1))

-- a shorthand property that is spelled out
pub pattern-spelled_out : {names between rest : List Naming} {key name : v_binding_ident.BindingIdent} {value value' : Option v_expr.Expr} (new_key : v_prop_name.PropName v_expr.Expr) (pattern : v_pat.Pat) → Takes names key.id name.id between → Renamed Anywhere k.option_expr_items between value value' rest → spells_out (next names (string_bytes key.id.sym) key.id.ctxt) ≡ true → k.prop_name_items 0 new_key ≡ plain_key (string_bytes key.id.sym) → ((role : Role) (field : ℕ) → k.pat_items role field pattern ≡ with_default_items role field (v_pat.BindingIdent name) value') → RenamedPattern k.object_pat_prop_items names (v_object_pat_prop.AssignPatProp key value) (v_object_pat_prop.KeyValuePatProp new_key pattern) rest
unfolding stmt_items
pattern-spelled_out {names = names} {key = key} {name = name} {value' = value'} new_key pattern taken default spelled key_is pattern_so role occurs = record {
  in_field = λ field.
      let x : List ℕ = string_bytes key.id.sym in
      let made : List Item = k.option_expr_items 1 value' in
      let pair : List Item = node field h.KeyValuePatProp (plain_key x ++ pattern_in_its_place (next names (string_bytes key.id.sym) key.id.ctxt) x key.id.ctxt role made) in
      let short : List Item = node field h.AssignPatProp (binding (next names (string_bytes key.id.sym) key.id.ctxt) 0 x key.id.ctxt role ++ made) in
      let place : shorthand_in_its_place (next names (string_bytes key.id.sym) key.id.ctxt) field x key.id.ctxt role made ≡ pair = ap (λ s. if s then pair else short) spelled in
      let with_pattern : pair ≡ node field h.KeyValuePatProp (plain_key x ++ k.pat_items role 1 pattern) = ap (λ list. node field h.KeyValuePatProp (plain_key x ++ list)) (pattern_is taken role value' ∙ sym (pattern_so role 1)) in
      let with_key : node field h.KeyValuePatProp (plain_key x ++ k.pat_items role 1 pattern) ≡ node field h.KeyValuePatProp (k.prop_name_items 0 new_key ++ k.pat_items role 1 pattern) = ap (λ list. node field h.KeyValuePatProp (list ++ k.pat_items role 1 pattern)) (sym key_is) in
      made_so Anywhere (place ∙ (with_pattern ∙ with_key)) (shorthand_so taken default role occurs field);
}

-- one that stays short
pub pattern-stays : {names between rest : List Naming} {key name : v_binding_ident.BindingIdent} {value value' : Option v_expr.Expr} → Takes names key.id name.id between → Renamed Anywhere k.option_expr_items between value value' rest → spells_out (next names (string_bytes key.id.sym) key.id.ctxt) ≡ false → RenamedPattern k.object_pat_prop_items names (v_object_pat_prop.AssignPatProp key value) (v_object_pat_prop.AssignPatProp name value') rest
unfolding stmt_items
pattern-stays {names = names} {key = key} {name = name} {value' = value'} taken default stays role occurs = record {
  in_field = λ field.
      let x : List ℕ = string_bytes key.id.sym in
      let made : List Item = k.option_expr_items 1 value' in
      let pair : List Item = node field h.KeyValuePatProp (plain_key x ++ pattern_in_its_place (next names (string_bytes key.id.sym) key.id.ctxt) x key.id.ctxt role made) in
      let short : List Item = node field h.AssignPatProp (binding (next names (string_bytes key.id.sym) key.id.ctxt) 0 x key.id.ctxt role ++ made) in
      let place : shorthand_in_its_place (next names (string_bytes key.id.sym) key.id.ctxt) field x key.id.ctxt role made ≡ short = ap (λ s. if s then pair else short) stays in
      let with_name : short ≡ node field h.AssignPatProp (k.binding_ident_items role 0 name ++ made) = ap (λ list. node field h.AssignPatProp (node 0 h.BindingIdent list ++ made)) (sym (taken.renamed_is 0 role)) in
      made_so Anywhere (place ∙ with_name) (shorthand_so taken default role occurs field);
}

-- a key that is a plain word
pub key_so : (it : v_ident_name.IdentName) {x : List ℕ} → string_bytes it.sym ≡ x → k.prop_name_items 0 (i_prop_name.IdentName it) ≡ plain_key x
unfolding stmt_items
key_so it same = ap (λ text. node 0 (h.IdentName text) []) same

-- a key that is computed from a string
pub computed_key_so : (it : v_computed.ComputedPropName v_expr.Expr) (text : v_str.Str) {x : List ℕ} → it.expr.value ≡ v_expr.Lit (i_lit.Str text) → string_bytes text.value ≡ x → text.raw ≡ None → bytes_eq x (codes "__proto__") ≡ true → k.prop_name_items 0 (i_prop_name.ComputedPropName it) ≡ key_in_object x
unfolding stmt_items
computed_key_so it text {x = x} is same no_raw proto =
    let computed : List Item = node 0 h.ComputedPropName (node 0 (h.Str x None) []) in
    ap (λ expr. node 0 h.ComputedPropName (k.expr_items 0 expr)) is
    ∙ (ap (λ bytes. node 0 h.ComputedPropName (node 0 (h.Str bytes (option_map string_bytes text.raw)) [])) same
    ∙ (ap (λ raw. node 0 h.ComputedPropName (node 0 (h.Str x (option_map string_bytes raw)) [])) no_raw
    ∙ sym (ap (λ s. if s then computed else plain_key x) proto)))

-- a pattern with its default value
pub default_so : (left : Box v_pat.Pat Global) (right : Box v_expr.Expr Global) {pattern : v_pat.Pat} {it : v_expr.Expr} {value : Option v_expr.Expr} → left.value ≡ pattern → right.value ≡ it → value ≡ Some it → (role : Role) (field : ℕ) → k.pat_items role field (v_pat.AssignPat left right) ≡ with_default_items role field pattern value
unfolding stmt_items
default_so left right {pattern = pattern} {it = it} {value = value} left_is right_is value_is role field =
    ap (λ p. node field h.AssignPat (k.pat_items role 0 p ++ k.expr_items 1 right.value)) left_is
    ∙ (ap (λ e. node field h.AssignPat (k.pat_items role 0 pattern ++ k.expr_items 1 e)) right_is
    ∙ ap (with_default_items role field pattern) (sym value_is))
