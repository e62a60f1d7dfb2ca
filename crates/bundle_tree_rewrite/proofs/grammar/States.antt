-- What an item states is a statement, and rewritten properties are those of an object literal.
use Rattle.std.proofs.Common.{◌≡◌, ℕ, Bool, true, false, List, [], ◌++◌, append-nil, Option, refl, ap, sym, subst, inl, inr}
use Rattle.std.specs.Prelude.{◌⊎◌}
use Rattle.std.specs.List.{flat_map}
use Rattle.std.proofs.lemmas.Bool.{false≢true}
use Rattle.std.proofs.lemmas.Option.{none-some}
use Rattle.bundle_syntax.specs.declared.ident.Ident as v_ident
use Rattle.bundle_syntax.specs.declared.kind.VarDeclKind.TheVariants as k
use Rattle.bundle_syntax.specs.declared.piece.Role.TheVariants as r
use Rattle.bundle_syntax.specs.Item as h
use Rattle.bundle_syntax.specs.Item.{Item, Head}
use Rattle.bundle_tree_ast.specs.declared.module.ModuleItem.{ModuleItem}
use Rattle.bundle_tree_ast.specs.declared.expr.Expr.{Expr}
use Rattle.bundle_tree_ast.specs.declared.prop.KeyValueProp.{KeyValueProp}
use Rattle.bundle_tree_listed.specs.Tree.{node, key_value_prop_items}
use Rattle.bundle_rules.specs.Idents.{Ident}
use Rattle.bundle_tree_parse.specs.Sorts.{AStmt, AnExpr, AKeyValue, APropertyOrSpread, AFunction, AClass, AnIdent, Slot, Holding, Fields, Exports, holds}
use Rattle.bundle_tree_parse.specs.Standing.{AreIn, no_more, over, IsIn, AreEach, ended, next, some}
use Rattle.bundle_tree_parse.specs.Standing as g
use Rattle.bundle_tree_parse.proofs.Rows.{one, last, last_each, last_maybe, in_node, alone, as_stmt}
use Rattle.bundle_tree_parse.proofs.Trees.{stmt_in, decl_in, expr_in, class_in, function_in, properties_in}
use Rattle.bundle_tree_rebuild.specs.Work.{Work}
use Rattle.bundle_tree_rebuild.specs.Becomes.{named, no_notes}
use Rattle.bundle_tree_rewrite.proofs.grammar.Fields.{is_refused}
use Rattle.bundle_tree_rewrite.proofs.grammar.Keeping.{kept_place, kept_properties}
use Rattle.bundle_tree_rewrite.specs.Stated.{constant, DeclaresName, Own, OfDefault, ReworkedObject, States, ImportStates, ListStates, StarStates, EmptyStates, StatementStates, DeclarationStates, ValueStates, FunctionStates, ClassStates}

-- `const name = value;`
pub constant_in : (name : Ident) {value : List Item} → IsIn AnExpr 1 value → IsIn AStmt 0 (constant name value)
constant_in name {value = value} it =
    let pattern : IsIn _ 0 (node 0 h.BindingIdent (named 0 name r.Binding)) = in_node 0 h.BindingIdent refl (last (alone 0 name.0 name.1 r.Binding refl)) in
    let declarator : List Item = node 1 h.VarDeclarator (node 0 h.BindingIdent (named 0 name r.Binding) ++ value) in
    in_node 0 (h.VarDecl k.Const no_notes) refl (last_each (subst (AreEach _ 1) (append-nil declarator) (next (in_node 1 h.VarDeclarator refl (one pattern (last_maybe (some it)))) ended)))

-- a default function or class by its name
pub function_declared : {name function : List Item} → IsIn (AnIdent r.Binding) 0 name → IsIn AFunction 1 function → IsIn AStmt 0 (node 0 h.FnDecl (name ++ function))
function_declared ident function = in_node 0 h.FnDecl refl (one ident (last function))

pub class_declared : {name body : List Item} → IsIn (AnIdent r.Binding) 0 name → IsIn AClass 1 body → IsIn AStmt 0 (node 0 h.ClassDecl (name ++ body))
class_declared ident body = in_node 0 h.ClassDecl refl (one ident (last body))

pub declared_name : {work rest : Work} {default : Ident} {own : Option v_ident.Ident} {made : List Item} → DeclaresName work default own made rest → IsIn (AnIdent r.Binding) 0 made
declared_name (Own one) = kept_place refl one (alone 0 _ _ r.Binding refl)
declared_name {default = default} OfDefault = alone 0 default.0 default.1 r.Binding refl

-- what an item states, if it states something
pub states_in : {work : Work} {default : Ident} {item : ModuleItem} {made : List Item} → States work default item made → (made ≡ []) ⊎ IsIn AStmt 0 made
states_in ImportStates = inl refl
states_in ListStates = inl refl
states_in StarStates = inl refl
states_in EmptyStates = inl refl
states_in (StatementStates {stmt = stmt} filled one) = inr (kept_place refl one.by (stmt_in 0 stmt))
states_in (DeclarationStates {decl = decl} one) = inr (as_stmt (kept_place refl one.by (decl_in 0 decl)))
states_in {default = default} (ValueStates {expr = expr} one) = inr (constant_in default (kept_place refl one.by (expr_in 1 expr)))
states_in (FunctionStates {function = function} name one) = inr (function_declared (declared_name name) (kept_place refl one (function_in 1 function)))
states_in (ClassStates {«class» = body} name one) = inr (class_declared (declared_name name) (kept_place refl one (class_in 1 body)))

-- Properties.

abbrev is_exports : Holding → Bool
is_exports Exports = true
is_exports _ = false

as_property : {field : ℕ} {items : List Item} → IsIn AKeyValue field items → IsIn APropertyOrSpread field items
as_property (g.name is) = absurd (none-some _ is)
as_property (g.node {head = head} {all = all} is within) = g.node (held head all is) within
  where
    held : (head : Head) (all : List Slot) → holds AKeyValue head ≡ Fields all → holds APropertyOrSpread head ≡ Fields all
    held h.KeyValueProp all is = is
    held _ all is = absurd (false≢true (sym (ap is_refused is)))
as_property (g.export_list {head = head} is source within) = absurd (no_exports head is)
  where
    no_exports : (head : Head) → holds AKeyValue head ≡ Exports → ⊥
    no_exports h.KeyValueProp is = false≢true (ap is_exports is)
    no_exports _ is = false≢true (sym (ap is_refused is))

pub as_properties : {field : ℕ} {items : List Item} → AreEach AKeyValue field items → AreEach APropertyOrSpread field items
as_properties ended = ended
as_properties (next it more) = next (as_property it) (as_properties more)

-- an object literal of rewritten properties
pub object_in : {work : Work} {properties made : List Item} → AreEach AKeyValue 0 properties → ReworkedObject work properties made → IsIn AnExpr 0 made
object_in them it = subst (IsIn AnExpr 0) (sym it.is) (in_node 0 h.ObjectLit refl (kept_properties it.by (last_each (as_properties them))))

pub listed_object : {work : Work} {made : List Item} (list : List (KeyValueProp Expr)) → ReworkedObject work (flat_map (key_value_prop_items 0) list) made → IsIn AnExpr 0 made
listed_object list it = object_in (properties_in 0 list) it
