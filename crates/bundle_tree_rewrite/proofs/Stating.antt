-- What an item states, of its list made anew.
use Rattle.std.proofs.Common.{◌≡◌, ◌≢◌, ◌∙◌, ℕ, ◌+◌, ◌-◌, arith, Bool, true, false, map, length, length-append, take, drop, List, [], ◌∷◌, ◌++◌, append_assoc, append-nil, Option, Some, None, refl, sym, ap, subst}
use Rattle.std.proofs.lemmas.List.{length-map, take-map}
use Rattle.std.proofs.Math.Seq.{take-append_seam}
use Rattle.std.specs.List.{flat_map}
use Rattle.bundle_syntax.specs.declared.ident.Ident as v_ident
use Rattle.bundle_syntax.specs.declared.piece.Role.TheVariants as r
use Rattle.bundle_syntax.specs.Item as h
use Rattle.bundle_syntax.specs.declared.piece.Piece.{Piece}
use Rattle.bundle_syntax.specs.Item.{Item, Head, item_of}
use Rattle.bundle_rules.specs.Idents.{Ident}
use Rattle.bundle_tree_ast.specs.declared.class.Class as v_class
use Rattle.bundle_tree_ast.specs.declared.class.Function as v_function
use Rattle.bundle_tree_ast.specs.declared.decl.Decl as v_decl
use Rattle.bundle_tree_ast.specs.declared.expr.Expr as v_expr
use Rattle.bundle_tree_ast.specs.declared.module.DefaultDecl as v_default_decl
use Rattle.bundle_tree_ast.specs.declared.module.ModuleDecl as v_module_decl
use Rattle.bundle_tree_ast.specs.declared.module.ModuleItem.{ModuleItem}
use Rattle.bundle_tree_ast.specs.declared.module.ModuleItem.TheVariants as i_item
use Rattle.bundle_tree_ast.specs.declared.module.ModuleDecl.TheVariants as i_decl
use Rattle.bundle_tree_ast.specs.declared.module.DefaultDecl.TheVariants as i_default
use Rattle.bundle_tree_ast.specs.declared.prop.KeyValueProp as v_key_value_prop
use Rattle.bundle_tree_ast.specs.declared.stmt.Stmt as v_stmt
use Rattle.bundle_syntax.specs.declared.lit.Lit.TheVariants as i_lit
use Rattle.bundle_tree_listed.specs.Tree.{default_decl_items, module_decl_items, module_item_items, node, option_items, ident_items, stmt_items, decl_items, expr_items, class_items, function_items, key_value_prop_items}
use Rattle.bundle_tree_parse.proofs.Rows.{last_each}
use Rattle.bundle_tree_parse.proofs.Trees.{stmt_in, decl_in, expr_in, class_in, function_in, properties_in}
use Rattle.bundle_tree_places.specs.Edits.{Anywhere, InObject}
use Rattle.bundle_tree_rebuild.specs.declared.kind.Enclosing.TheVariants as e
use Rattle.bundle_tree_rebuild.specs.Becomes.{Becomes, named}
use Rattle.bundle_tree_rebuild.specs.Fits.{Fits, Name, Nothing}
use Rattle.bundle_tree_rebuild.specs.Walked.{Walking, fresh, new_notes, noted, walked, with_items}
use Rattle.bundle_tree_rebuild.specs.Work.{Work}
use Rattle.bundle_tree_rebuild.proofs.Walks.{Walks, on, in_plain, in_object, all_made, each_made}
use Rattle.bundle_tree_rewrite.specs.Stated.{constant, ReworkedObject, States, DeclaresName, Own, OfDefault, ValueStates, DeclarationStates, FunctionStates, ClassStates, StatementStates}
use Rattle.bundle_tree_rewrite.specs.Written.{constant_front, default_name, with_field}
use Rattle.bundle_tree_rewrite.proofs.grammar.Fitting.{fits_place, fits_properties}
use Rattle.bundle_tree_rewrite.proofs.grammar.States.{as_properties}

-- A whole list, behind what is there.

-- what a walk adds to what is there
pub record Added (work : Work) (there items : List Item) : Type 0 where
  pub rest : Work
  pub made : List Item
  pub by : Becomes Anywhere work items made rest
  pub is : (walked (with_items (fresh work) there) items).made ≡ there ++ made

pub added : {items : List Item} → Fits Anywhere items → (work : Work) (there : List Item) → Added work there items
added {items} them work there =
    let it : Walks Anywhere work (new_notes work.clears_notes) e.Plain [] there items [] = each_made them work (new_notes work.clears_notes) e.Plain [] there in_plain refl [] in
    record {
      rest = it.left;
      made = it.made;
      by = it.by;
      is = ap (λ l. (walked (with_items (fresh work) there) l).made) (sym (append-nil items)) ∙ ap (λ state. state.made) it.goes;
    }

-- Statements and declarations.

-- a statement that is not empty
pub statement_stated : (work : Work) (default : Ident) (stmt : v_stmt.Stmt) → stmt ≢ v_stmt.EmptyStmt → States work default (i_item.Stmt stmt) (walked (fresh work) (stmt_items 0 stmt)).made
statement_stated work default stmt filled = StatementStates filled (all_made (fits_place refl (stmt_in 0 stmt)) work)

-- an exported declaration
pub declaration_stated : (work : Work) (default : Ident) (decl : v_decl.Decl) → States work default (i_item.ModuleDecl (i_decl.ExportDecl decl)) (walked (fresh work) (decl_items 0 decl)).made
declaration_stated work default decl = DeclarationStates (all_made (fits_place refl (decl_in 0 decl)) work)

-- Default expressions.

-- the list of an expression in another field
pub expr_in_field : (field at : ℕ) (expr : v_expr.Expr) → with_field field (expr_items at expr) ≡ expr_items field expr
unfolding stmt_items
expr_in_field field at (v_expr.Lit (i_lit.Str it)) = refl
expr_in_field field at _ = refl

pub value_stated : (work : Work) (default : Ident) (expr : v_expr.Expr) → States work default (i_item.ModuleDecl (i_decl.ExportDefaultExpr expr)) (with_items (walked (with_items (fresh work) (constant_front default)) (with_field 1 (expr_items 0 expr))) (h.Close ∷ h.Close ∷ [])).made
value_stated work default expr =
    let it : Added work (constant_front default) (expr_items 1 expr) = added (fits_place refl (expr_in 1 expr)) work (constant_front default) in
    subst (λ list. States work default (i_item.ModuleDecl (i_decl.ExportDefaultExpr expr)) list)
    (sym (ap (λ list. (walked (with_items (fresh work) (constant_front default)) list).made ++ h.Close ∷ h.Close ∷ []) (expr_in_field 1 0 expr)
    ∙ (ap (λ list. list ++ h.Close ∷ h.Close ∷ []) it.is ∙ ended default it.made)))
    (ValueStates {expr = expr} {value = it.made} (record { rest = it.rest; by = it.by }))
  where
    ended : (default : Ident) (made : List Item) → (constant_front default ++ made) ++ h.Close ∷ h.Close ∷ [] ≡ constant default made
    ended default made = ap (λ l. constant_front default ++ l) (sym (append_assoc made (h.Close ∷ []) (h.Close ∷ [])))

-- Default functions and classes.

-- what is declared by its own name or by that of the default
pub record Declared (work : Work) (default : Ident) (own : Option v_ident.Ident) (head : Head) (body : List Item) : Type 0 where
  pub between : Work
  pub rest : Work
  pub name : List Item
  pub made : List Item
  pub name_by : DeclaresName work default own name between
  pub by : Becomes Anywhere between body made rest
  pub is : (with_items (walked (with_items (fresh work) (h.Open 0 head ∷ default_name own default)) (option_items (ident_items r.Binding 0) own ++ body)) (h.Close ∷ [])).made ≡ node 0 head (name ++ made)

pub declared : (work : Work) (default : Ident) (own : Option v_ident.Ident) (head : Head) {body : List Item} → Fits Anywhere body → Declared work default own head body
declared work default None head {body} them =
    let it : Added work (h.Open 0 head ∷ named 0 default r.Binding) body = added them work (h.Open 0 head ∷ named 0 default r.Binding) in
    record {
      between = work;
      rest = it.rest;
      name = named 0 default r.Binding;
      made = it.made;
      name_by = OfDefault;
      by = it.by;
      is = ap (λ list. list ++ h.Close ∷ []) it.is;
    }
declared work default (Some ident) head {body} them =
    let notes = new_notes work.clears_notes in
    let front : List Item = h.Open 0 head ∷ [] in
    let own : List Item = ident_items r.Binding 0 ident in
    let one : Walks Anywhere work notes e.Plain [] front own (body ++ []) = each_made (Name 0 _ _ r.Binding Nothing) work notes e.Plain [] front in_plain refl (body ++ []) in
    let two : Walks Anywhere one.left notes e.Plain [] (front ++ one.made) body [] = each_made them one.left notes e.Plain [] (front ++ one.made) in_plain (ap new_notes (sym one.same)) [] in
    record {
      between = one.left;
      rest = two.left;
      name = one.made;
      made = two.made;
      name_by = Own one.by;
      by = two.by;
      is = ap (λ l. (walked (with_items (fresh work) front) (own ++ l)).made ++ h.Close ∷ []) (sym (append-nil body))
          ∙ ap (λ state. state.made ++ h.Close ∷ []) (one.goes ∙ two.goes);
    }

pub function_stated : (work : Work) (default : Ident) (own : Option v_ident.Ident) (function : v_function.Function) → States work default (i_item.ModuleDecl (i_decl.ExportDefaultDecl (i_default.FnExpr own function))) (with_items (walked (with_items (fresh work) (h.Open 0 h.FnDecl ∷ default_name own default)) (option_items (ident_items r.Binding 0) own ++ function_items 1 function)) (h.Close ∷ [])).made
function_stated work default own function =
    let it : Declared work default own h.FnDecl (function_items 1 function) = declared work default own h.FnDecl (fits_place refl (function_in 1 function)) in
    subst (States work default (i_item.ModuleDecl (i_decl.ExportDefaultDecl (i_default.FnExpr own function)))) (sym it.is) (FunctionStates it.name_by it.by)

pub class_stated : (work : Work) (default : Ident) (own : Option v_ident.Ident) (body : v_class.Class) → States work default (i_item.ModuleDecl (i_decl.ExportDefaultDecl (i_default.ClassExpr own body))) (with_items (walked (with_items (fresh work) (h.Open 0 h.ClassDecl ∷ default_name own default)) (option_items (ident_items r.Binding 0) own ++ class_items 1 body)) (h.Close ∷ [])).made
class_stated work default own body =
    let it : Declared work default own h.ClassDecl (class_items 1 body) = declared work default own h.ClassDecl (fits_place refl (class_in 1 body)) in
    subst (States work default (i_item.ModuleDecl (i_decl.ExportDefaultDecl (i_default.ClassExpr own body)))) (sym it.is) (ClassStates it.name_by it.by)

-- Object literals.

object_noted : (clears : Bool) → noted (new_notes clears) h.ObjectLit ≡ h.ObjectLit
object_noted true = refl
object_noted false = refl

-- the object literal of rewritten properties
pub object_stated : (work : Work) (list : List (v_key_value_prop.KeyValueProp v_expr.Expr)) → ReworkedObject work (flat_map (key_value_prop_items 0) list) (walked (fresh work) (node 0 h.ObjectLit (flat_map (key_value_prop_items 0) list))).made
object_stated work list =
    let notes = new_notes work.clears_notes in
    let items : List Item = flat_map (key_value_prop_items 0) list in
    let front : List Item = h.Open 0 h.ObjectLit ∷ [] in
    let it : Walks InObject work notes e.Object (e.Plain ∷ []) front items (h.Close ∷ []) = each_made (fits_properties (last_each (as_properties (properties_in 0 list)))) work notes e.Object (e.Plain ∷ []) front in_object refl (h.Close ∷ []) in
    record {
      rest = it.left;
      inside = it.made;
      is =
          ap (λ head. (walked (on work notes e.Object (e.Plain ∷ []) (h.Open 0 head ∷ [])) (items ++ h.Close ∷ [])).made) (object_noted work.clears_notes)
          ∙ ap (λ state. state.made) it.goes;
      by = it.by;
    }

-- its list, as it is written
pub object_listed : (list : List (v_key_value_prop.KeyValueProp v_expr.Expr)) {none opened filled closed : List Item} → none ≡ [] → opened ≡ none ++ h.Open 0 h.ObjectLit ∷ [] → filled ≡ opened ++ flat_map (key_value_prop_items 0) list → closed ≡ filled ++ h.Close ∷ [] → closed ≡ node 0 h.ObjectLit (flat_map (key_value_prop_items 0) list)
object_listed list none_is opened_is filled_is closed_is =
    closed_is ∙ ap (λ l. l ++ h.Close ∷ []) (filled_is ∙ ap (λ l. l ++ flat_map (key_value_prop_items 0) list) (opened_is ∙ ap (λ l. l ++ h.Open 0 h.ObjectLit ∷ []) none_is))

pub object_so : (work : Work) (list : List (v_key_value_prop.KeyValueProp v_expr.Expr)) {pieces made : List Item} → pieces ≡ node 0 h.ObjectLit (flat_map (key_value_prop_items 0) list) → made ≡ (walked (fresh work) pieces).made → ReworkedObject work (flat_map (key_value_prop_items 0) list) made
object_so work list listed made_is =
    subst (ReworkedObject work (flat_map (key_value_prop_items 0) list))
    (sym (made_is ∙ ap (λ l. (walked (fresh work) l).made) listed))
    (object_stated work list)

-- Of what the code has read.

-- what is in a node, by its list
abbrev pub Encloses : (pieces inside : List Item) → Type 0
Encloses pieces inside = (first last : Item) (inner : List Item) → pieces ≡ first ∷ (inner ++ last ∷ []) → inside ≡ inner

-- nothing is stated
pub nothing_so : {work : Work} {default : Ident} {item shape : ModuleItem} {old : Walking} → item ≡ shape → old ≡ fresh work → States work default shape [] → States work default item old.made
nothing_so {work = work} {default = default} {item = item} {shape = shape} item_is old_is states =
    subst (States work default item) (sym (ap (λ it. it.made) old_is)) (subst (λ it. States work default it []) (sym item_is) states)

-- something is
stated_so : {work : Work} {default : Ident} {item shape : ModuleItem} {made list : List Item} → item ≡ shape → made ≡ list → States work default shape list → States work default item made
stated_so {work = work} {default = default} {item = item} {list = list} item_is made_is states =
    subst (States work default item) (sym made_is) (subst (λ it. States work default it list) (sym item_is) states)

pub statement_so : {work : Work} {default : Ident} {item : ModuleItem} {stmt : v_stmt.Stmt} {old new : Walking} {pieces : List Item} → item ≡ i_item.Stmt stmt → stmt ≢ v_stmt.EmptyStmt → pieces ≡ module_item_items 0 item → new ≡ walked old pieces → old ≡ fresh work → States work default item new.made
statement_so {work = work} {default = default} {stmt = stmt} {old = old} {pieces = pieces} item_is filled listed new_is old_is =
    stated_so item_is
    (ap (λ it. it.made) (new_is ∙ (ap (λ it. walked it pieces) old_is ∙ ap (walked (fresh work)) (listed ∙ ap (module_item_items 0) item_is))))
    (statement_stated work default stmt filled)

pub declaration_so : {work : Work} {default : Ident} {decl : v_module_decl.ModuleDecl} {own : v_decl.Decl} {old new : Walking} {pieces inside : List Item} → decl ≡ i_decl.ExportDecl own → pieces ≡ module_decl_items 0 decl → Encloses pieces inside → new ≡ walked old inside → old ≡ fresh work → States work default (i_item.ModuleDecl decl) new.made
declaration_so {work = work} {default = default} {own = own} {old = old} {inside = inside} decl_is listed encloses new_is old_is =
    let inner : inside ≡ decl_items 0 own = encloses (h.Open 0 h.ExportDecl) h.Close (decl_items 0 own) (listed ∙ ap (module_decl_items 0) decl_is) in
    stated_so (ap i_item.ModuleDecl decl_is)
    (ap (λ it. it.made) (new_is ∙ (ap (λ it. walked it inside) old_is ∙ ap (walked (fresh work)) inner)))
    (declaration_stated work default own)

pub value_so : {work : Work} {default : Ident} {decl : v_module_decl.ModuleDecl} {expr : v_expr.Expr} {old new : Walking} {pieces inside : List Item} → decl ≡ i_decl.ExportDefaultExpr expr → pieces ≡ module_decl_items 0 decl → Encloses pieces inside → new ≡ with_items (walked (with_items old (constant_front default)) (with_field 1 inside)) (h.Close ∷ h.Close ∷ []) → old ≡ fresh work → States work default (i_item.ModuleDecl decl) new.made
value_so {work = work} {default = default} {expr = expr} {old = old} {inside = inside} decl_is listed encloses new_is old_is =
    let inner : inside ≡ expr_items 0 expr = encloses (h.Open 0 h.ExportDefaultExpr) h.Close (expr_items 0 expr) (listed ∙ ap (module_decl_items 0) decl_is) in
    stated_so (ap i_item.ModuleDecl decl_is)
    (ap (λ it. it.made) (new_is
    ∙ (ap (λ it. with_items (walked (with_items it (constant_front default)) (with_field 1 inside)) (h.Close ∷ h.Close ∷ [])) old_is
    ∙ ap (λ l. with_items (walked (with_items (fresh work) (constant_front default)) (with_field 1 l)) (h.Close ∷ h.Close ∷ [])) inner)))
    (value_stated work default expr)

-- a default function or class
named_so : {work : Work} (default : Ident) (own : Option v_ident.Ident) (head : Head) {old new : Walking} {inside inner : List Item} → inside ≡ inner → new ≡ with_items (walked (with_items old (h.Open 0 head ∷ default_name own default)) inside) (h.Close ∷ []) → old ≡ fresh work → new.made ≡ (with_items (walked (with_items (fresh work) (h.Open 0 head ∷ default_name own default)) inner) (h.Close ∷ [])).made
named_so {work = work} default own head {inside = inside} inner new_is old_is =
    ap (λ it. it.made) (new_is
    ∙ (ap (λ it. with_items (walked (with_items it (h.Open 0 head ∷ default_name own default)) inside) (h.Close ∷ [])) old_is
    ∙ ap (λ l. with_items (walked (with_items (fresh work) (h.Open 0 head ∷ default_name own default)) l) (h.Close ∷ [])) inner))

pub function_so : {work : Work} {default : Ident} {decl : v_default_decl.DefaultDecl} {own : Option v_ident.Ident} {function : v_function.Function} {old new : Walking} {pieces inside : List Item} → decl ≡ i_default.FnExpr own function → pieces ≡ default_decl_items 0 decl → Encloses pieces inside → new ≡ with_items (walked (with_items old (h.Open 0 h.FnDecl ∷ default_name own default)) inside) (h.Close ∷ []) → old ≡ fresh work → States work default (i_item.ModuleDecl (i_decl.ExportDefaultDecl decl)) new.made
function_so {work = work} {default = default} {own = own} {function = function} decl_is listed encloses new_is old_is =
    stated_so (ap (λ it. i_item.ModuleDecl (i_decl.ExportDefaultDecl it)) decl_is)
    (named_so default own h.FnDecl (encloses (h.Open 0 h.FnExpr) h.Close (option_items (ident_items r.Binding 0) own ++ function_items 1 function) (listed ∙ ap (default_decl_items 0) decl_is)) new_is old_is)
    (function_stated work default own function)

pub class_so : {work : Work} {default : Ident} {decl : v_default_decl.DefaultDecl} {own : Option v_ident.Ident} {body : v_class.Class} {old new : Walking} {pieces inside : List Item} → decl ≡ i_default.ClassExpr own body → pieces ≡ default_decl_items 0 decl → Encloses pieces inside → new ≡ with_items (walked (with_items old (h.Open 0 h.ClassDecl ∷ default_name own default)) inside) (h.Close ∷ []) → old ≡ fresh work → States work default (i_item.ModuleDecl (i_decl.ExportDefaultDecl decl)) new.made
class_so {work = work} {default = default} {own = own} {body = body} decl_is listed encloses new_is old_is =
    stated_so (ap (λ it. i_item.ModuleDecl (i_decl.ExportDefaultDecl it)) decl_is)
    (named_so default own h.ClassDecl (encloses (h.Open 0 h.ClassExpr) h.Close (option_items (ident_items r.Binding 0) own ++ class_items 1 body) (listed ∙ ap (default_decl_items 0) decl_is)) new_is old_is)
    (class_stated work default own body)

abbrev behind_one : List Item → List Item
behind_one [] = []
behind_one (x ∷ rest) = rest

-- all but the first and the last
pub inside_so : (pieces : List Piece) (first last : Item) (inner : List Item) → map item_of pieces ≡ first ∷ (inner ++ last ∷ []) → map item_of (take (length pieces - 1 - 1) (drop 1 pieces)) ≡ inner
inside_so [] first last inner is = absurd (omega (arith, ap length is))
inside_so (x ∷ pieces) first last inner is =
    let rest : map item_of pieces ≡ inner ++ last ∷ [] = ap behind_one is in
    let size : length pieces ≡ length inner + 1 = sym (length-map pieces item_of) ∙ (ap length rest ∙ length-append inner (last ∷ [])) in
    let less : length (x ∷ pieces) - 1 - 1 ≡ length inner = omega (arith, size) in
    ap (λ n. map item_of (take n pieces)) less
    ∙ (sym (take-map item_of (length inner) pieces) ∙ (ap (take (length inner)) rest ∙ take-append_seam inner (last ∷ [])))
