-- Nodes and lists of nodes one field after another.
use Rattle.std.proofs.Common.{◌≡◌, ℕ, Bool, true, false, List, [], ◌∷◌, ◌++◌, append_assoc, append-nil, Option, Some, None, refl, sym, subst, ◌∙◌}
use Rattle.std.proofs.lemmas.Bool.{false≢true}
use Rattle.bundle_syntax.specs.declared.piece.Role.{Role}
use Rattle.bundle_syntax.specs.declared.piece.Role.TheVariants as r
use Rattle.bundle_syntax.specs.Item as h
use Rattle.bundle_syntax.specs.Item.{Item, Head}
use Rattle.bundle_tree_parse.specs.Sorts.{Sort, AnItem, AModuleDecl, ADecl, AStmt, AnInit, ALoopHead, AnExpr, ALiteral, ACallee, AnArrowBody, AProperty, APropertyOrSpread, APattern, Count, One, Optional, Many, Places, Slot, slot, Holding, Refused, Fields, Exports, holds, name_of}
use Rattle.bundle_tree_parse.specs.Standing.{after, has_number, AreIn, no_more, over, a_name, a_hole, a_node, an_export_list, IsIn, name, node, export_list, IsMaybe, none, some, AreEach, ended, next, ArePlaces, closed, empty, held}

-- what stands in a field, and then what stands in those that are left
first : {sort : Sort} {field : ℕ} {items : List Item} → IsIn sort field items → (count : Count) (more : List Slot) (rest : List Item) → AreIn (after field count sort more) rest → AreIn (slot field count sort ∷ more) (items ++ rest)
first (name is) count more rest them = a_name is them
first {sort = s} (node {field = f} {head = hd} {inside = ins} is in_it) count more rest them = subst (λ l. AreIn (slot f count s ∷ more) (h.Open f hd ∷ l)) (sym (append_assoc ins (h.Close ∷ []) rest)) (a_node is in_it them)
first {sort = s} (export_list {field = f} {head = hd} {inside = ins} is has in_it) count more rest them = subst (λ l. AreIn (slot f count s ∷ more) (h.Open f hd ∷ l)) (sym (append_assoc ins (h.Close ∷ []) rest)) (an_export_list is has in_it them)

pub one : {sort : Sort} {field : ℕ} {more : List Slot} {items rest : List Item} → IsIn sort field items → AreIn more rest → AreIn (slot field One sort ∷ more) (items ++ rest)
one {more = more} {rest = rest} it them = first it One more rest them

pub last : {sort : Sort} {field : ℕ} {items : List Item} → IsIn sort field items → AreIn (slot field One sort ∷ []) items
last {sort = s} {field = f} {items = items} it = subst (AreIn (slot f One s ∷ [])) (append-nil items) (one it no_more)

pub maybe : {sort : Sort} {field : ℕ} {more : List Slot} {items rest : List Item} → has_number field more ≡ false → IsMaybe sort field items → AreIn more rest → AreIn (slot field Optional sort ∷ more) (items ++ rest)
maybe free none them = over refl free them
maybe {more = more} {rest = rest} free (some it) them = first it Optional more rest them

pub last_maybe : {sort : Sort} {field : ℕ} {items : List Item} → IsMaybe sort field items → AreIn (slot field Optional sort ∷ []) items
last_maybe {sort = s} {field = f} {items = items} it = subst (AreIn (slot f Optional s ∷ [])) (append-nil items) (maybe refl it no_more)

pub each : {sort : Sort} {field : ℕ} {more : List Slot} {items rest : List Item} → has_number field more ≡ false → AreEach sort field items → AreIn more rest → AreIn (slot field Many sort ∷ more) (items ++ rest)
each free ended them = over refl free them
each {more = more} {rest = rest} free (next {sort = s} {field = f} {items = items} {rest = others} it all) them = subst (AreIn (slot f Many s ∷ more)) (sym (append_assoc items others rest)) (first it Many more (others ++ rest) (each free all them))

pub last_each : {sort : Sort} {field : ℕ} {items : List Item} → AreEach sort field items → AreIn (slot field Many sort ∷ []) items
last_each {sort = s} {field = f} {items = items} all = subst (AreIn (slot f Many s ∷ [])) (append-nil items) (each refl all no_more)

pub last_places : {sort : Sort} {field : ℕ} {items : List Item} → ArePlaces sort field items → AreIn (slot field Places sort ∷ []) items
last_places closed = over refl refl no_more
last_places (empty all) = a_hole (last_places all)
last_places (held {rest = others} it all) = first it Places [] others (last_places all)

pub in_node : {sort : Sort} {all : List Slot} {inside : List Item} (field : ℕ) (head : Head) → holds sort head ≡ Fields all → AreIn all inside → IsIn sort field (h.Open field head ∷ (inside ++ h.Close ∷ []))
in_node field head is in_it = node is in_it

pub in_leaf : {sort : Sort} (field : ℕ) (head : Head) → holds sort head ≡ Fields [] → IsIn sort field (h.Open field head ∷ h.Close ∷ [])
in_leaf field head is = node is no_more

pub alone : {sort : Sort} (field : ℕ) (x : List ℕ) (ctxt : ℕ) (role : Role) → name_of sort ≡ Some role → IsIn sort field (h.Ident field x ctxt role ∷ [])
alone field x ctxt role is = name is

-- Wider sorts.

abbrev is_refused : Holding → Bool
is_refused Refused = true
is_refused _ = false

some_fields : (kept : Holding) (all : List Slot) → kept ≡ Fields all → is_refused kept ≡ false
some_fields kept all e = subst (λ o. is_refused o ≡ false) (sym e) refl

exports : (kept : Holding) → kept ≡ Exports → is_refused kept ≡ false
exports kept e = subst (λ o. is_refused o ≡ false) (sym e) refl

widen : {sort : Sort} {field : ℕ} {items : List Item} (wider : Sort) → ((head : Head) → is_refused (holds sort head) ≡ false → holds wider head ≡ holds sort head) → ((role : Role) → name_of sort ≡ Some role → name_of wider ≡ Some role) → IsIn sort field items → IsIn wider field items
widen wider heads names (name {role = role} is) = name (names role is)
widen wider heads names (node {sort = s} {head = hd} {all = all} is in_it) = node (heads hd (some_fields (holds s hd) all is) ∙ is) in_it
widen wider heads names (export_list {sort = s} {head = hd} is has in_it) = export_list (heads hd (exports (holds s hd) is) ∙ is) has in_it

pub as_init : {field : ℕ} {items : List Item} → IsIn AnExpr field items → IsIn AnInit field items
as_init it = widen AnInit heads (λ role is. is) it
  where
    heads : (head : Head) → is_refused (holds AnExpr head) ≡ false → holds AnInit head ≡ holds AnExpr head
    heads (h.VarDecl kind meta) is = absurd (false≢true (sym is))
    heads _ is = refl

pub as_callee : {field : ℕ} {items : List Item} → IsIn AnExpr field items → IsIn ACallee field items
as_callee it = widen ACallee heads (λ role is. is) it
  where
    heads : (head : Head) → is_refused (holds AnExpr head) ≡ false → holds ACallee head ≡ holds AnExpr head
    heads h.Super is = absurd (false≢true (sym is))
    heads h.Import is = absurd (false≢true (sym is))
    heads _ is = refl

pub as_body : {field : ℕ} {items : List Item} → IsIn AnExpr field items → IsIn AnArrowBody field items
as_body it = widen AnArrowBody heads (λ role is. is) it
  where
    heads : (head : Head) → is_refused (holds AnExpr head) ≡ false → holds AnArrowBody head ≡ holds AnExpr head
    heads h.BlockStmt is = absurd (false≢true (sym is))
    heads _ is = refl

pub as_pattern : (role : Role) {field : ℕ} {items : List Item} → IsIn AnExpr field items → IsIn (APattern role) field items
as_pattern role it = widen (APattern role) heads (λ name is. is) it
  where
    heads : (head : Head) → is_refused (holds AnExpr head) ≡ false → holds (APattern role) head ≡ holds AnExpr head
    heads h.BindingIdent is = absurd (false≢true (sym is))
    heads h.ArrayPat is = absurd (false≢true (sym is))
    heads h.ObjectPat is = absurd (false≢true (sym is))
    heads h.RestPat is = absurd (false≢true (sym is))
    heads h.AssignPat is = absurd (false≢true (sym is))
    heads _ is = refl

pub as_loop_head : {field : ℕ} {items : List Item} → IsIn (APattern r.Reference) field items → IsIn ALoopHead field items
as_loop_head it = widen ALoopHead heads (λ role is. is) it
  where
    heads : (head : Head) → is_refused (holds (APattern r.Reference) head) ≡ false → holds ALoopHead head ≡ holds (APattern r.Reference) head
    heads (h.VarDecl kind meta) is = absurd (false≢true (sym is))
    heads _ is = refl

pub as_stmt : {field : ℕ} {items : List Item} → IsIn ADecl field items → IsIn AStmt field items
as_stmt it = widen AStmt heads (λ role is. absurd (false≢true (none-is is))) it
  where
    none-is : {role : Role} → name_of ADecl ≡ Some role → false ≡ true
    none-is e = subst (λ (o : Option Role). false ≡ elim o [ None ↦ false | Some _ ↦ true ]) e refl

    heads : (head : Head) → is_refused (holds ADecl head) ≡ false → holds AStmt head ≡ holds ADecl head
    heads h.ClassDecl is = refl
    heads h.FnDecl is = refl
    heads (h.VarDecl kind meta) is = refl
    heads _ is = absurd (false≢true (sym is))

pub as_item : {field : ℕ} {items : List Item} → IsIn AStmt field items → IsIn AnItem field items
as_item it = widen AnItem heads (λ role is. absurd (false≢true (none-is is))) it
  where
    none-is : {role : Role} → name_of AStmt ≡ Some role → false ≡ true
    none-is e = subst (λ (o : Option Role). false ≡ elim o [ None ↦ false | Some _ ↦ true ]) e refl

    heads : (head : Head) → is_refused (holds AStmt head) ≡ false → holds AnItem head ≡ holds AStmt head
    heads (h.ImportDecl meta) is = absurd (false≢true (sym is))
    heads h.ExportDecl is = absurd (false≢true (sym is))
    heads (h.NamedExport meta) is = absurd (false≢true (sym is))
    heads h.ExportDefaultDecl is = absurd (false≢true (sym is))
    heads h.ExportDefaultExpr is = absurd (false≢true (sym is))
    heads (h.ExportAll meta) is = absurd (false≢true (sym is))
    heads _ is = refl

pub decl_as_item : {field : ℕ} {items : List Item} → IsIn AModuleDecl field items → IsIn AnItem field items
decl_as_item it = widen AnItem heads (λ role is. absurd (false≢true (none-is is))) it
  where
    none-is : {role : Role} → name_of AModuleDecl ≡ Some role → false ≡ true
    none-is e = subst (λ (o : Option Role). false ≡ elim o [ None ↦ false | Some _ ↦ true ]) e refl

    heads : (head : Head) → is_refused (holds AModuleDecl head) ≡ false → holds AnItem head ≡ holds AModuleDecl head
    heads (h.ImportDecl meta) is = refl
    heads h.ExportDecl is = refl
    heads (h.NamedExport meta) is = refl
    heads h.ExportDefaultDecl is = refl
    heads h.ExportDefaultExpr is = refl
    heads (h.ExportAll meta) is = refl
    heads _ is = absurd (false≢true (sym is))

pub as_property_or_spread : {field : ℕ} {items : List Item} → IsIn AProperty field items → IsIn APropertyOrSpread field items
as_property_or_spread it = widen APropertyOrSpread heads (λ role is. is) it
  where
    heads : (head : Head) → is_refused (holds AProperty head) ≡ false → holds APropertyOrSpread head ≡ holds AProperty head
    heads h.SpreadElement is = absurd (false≢true (sym is))
    heads _ is = refl

pub literal_as_expr : {field : ℕ} {items : List Item} → IsIn ALiteral field items → IsIn AnExpr field items
literal_as_expr it = widen AnExpr heads (λ role is. absurd (false≢true (none-is is))) it
  where
    none-is : {role : Role} → name_of ALiteral ≡ Some role → false ≡ true
    none-is e = subst (λ (o : Option Role). false ≡ elim o [ None ↦ false | Some _ ↦ true ]) e refl

    heads : (head : Head) → is_refused (holds ALiteral head) ≡ false → holds AnExpr head ≡ holds ALiteral head
    heads (h.Str value raw) is = refl
    heads (h.Bool value) is = refl
    heads h.Null is = refl
    heads (h.Number raw) is = refl
    heads (h.BigInt raw) is = refl
    heads (h.Regex raw) is = refl
    heads _ is = absurd (false≢true (sym is))
