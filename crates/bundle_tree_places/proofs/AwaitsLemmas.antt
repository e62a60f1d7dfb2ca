-- An `await` stands outside functions by the nodes that are open exactly if it does by its place.
use Rattle.std.proofs.Common.{◌≡◌, ℕ, suc, ◌+◌, ◌==◌, ◌&&◌, ◌||◌, Bool, true, false, not, cond, List, [], ◌∷◌, ◌++◌, Option, Some, None, slice_get, drop, refl, ap, sym, ◌∙◌, arith}
use Rattle.std.specs.List.{list_any}
use Rattle.bundle_syntax.specs.Item as h
use Rattle.bundle_syntax.specs.Item.{Item, Head}
use Rattle.bundle_rules.specs.Places.{Around, Spot, in_field, outer_path, past, path_to, path_to_option, spot_before}
use Rattle.bundle_rules.specs.Scopes.{Es, Scope, Inner, ScopeKind, Parameters, Block, FunctionName, ClassName, block_in, block_kind, is_default, kind_of_scope, scope_at, scopes_around}
use Rattle.bundle_rules.specs.Homes.{is_parameters}
use Rattle.bundle_rules.specs.Deferred.{is_in_function}
use Rattle.bundle_rules.proofs.PlacesLemmas.{spot_before-next}
use Rattle.bundle_rules.specs.Awaits.{awaits, awaits_here, awaits_from, awaits_outside}
use Rattle.bundle_tree_places.proofs.ListLemmas.{drop_at, slice_get-drop}
use Rattle.bundle_tree_places.specs.declared.awaits.Standing.{Standing}
use Rattle.bundle_tree_places.specs.declared.awaits.Standing.TheVariants.{Outside}
use Rattle.bundle_tree_places.specs.Nested.{is_inside, standing_in, standing_of, is_first_inside, without_first, nested_past, awaits_at, awaits_in}

-- how what is in each of these nodes stands, and at last what is in none
abbrev pub nested : List Around → List Standing
nested [] = Outside ∷ []
nested (node ∷ outer) = standing_of node.head (is_in_function outer) ∷ nested outer

-- no block is the parameters of a function
block_in-other : (begins : ℕ) (head : Head) → is_parameters (Inner (block_in head) begins) ≡ false
block_in-other begins h.StaticBlock = refl
block_in-other begins h.CatchClause = refl
block_in-other begins (h.Function is_generator is_async) = refl
block_in-other begins (h.ArrowExpr is_async) = refl
block_in-other begins h.Constructor = refl
block_in-other begins h.GetterProp = refl
block_in-other begins h.SetterProp = refl
block_in-other begins _ = refl

block_kind-other : (begins : ℕ) (outer : List Around) → is_parameters (Inner (block_kind outer) begins) ≡ false
block_kind-other begins [] = refl
block_kind-other begins (node ∷ outer) = block_in-other begins node.head

-- whether a node is a function at this field
by_kind : (head : Head) (begins field : ℕ) (outer : List Around) → list_any is_parameters (scope_at begins (kind_of_scope head field outer)) ≡ is_inside (standing_in head) field
by_kind (h.Function is_generator is_async) begins field outer = refl
by_kind h.Constructor begins field outer = refl
by_kind (h.ArrowExpr is_async) begins field outer = refl
by_kind h.GetterProp begins field outer = elim (field == 0) as (λ v. list_any is_parameters (scope_at begins (cond v None (Some Parameters))) ≡ not v) [ true ↦ refl | false ↦ refl ]
by_kind h.SetterProp begins field outer = elim (field == 0) as (λ v. list_any is_parameters (scope_at begins (cond v None (Some Parameters))) ≡ not v) [ true ↦ refl | false ↦ refl ]
by_kind h.SwitchStmt begins field outer = elim (field == 0) as (λ v. list_any is_parameters (scope_at begins (cond v None (Some Block))) ≡ false) [ true ↦ refl | false ↦ refl ]
by_kind h.FnExpr begins field outer = elim (is_default outer) as (λ v. list_any is_parameters (scope_at begins (cond v None (Some FunctionName))) ≡ false) [ true ↦ refl | false ↦ refl ]
by_kind h.ClassExpr begins field outer = elim (is_default outer) as (λ v. list_any is_parameters (scope_at begins (cond v None (Some ClassName))) ≡ false) [ true ↦ refl | false ↦ refl ]
by_kind h.BlockStmt begins field outer = ap (λ v. v || false) (block_kind-other begins outer)
by_kind _ begins field outer = refl

-- one of the scopes is that of a node or one further outside
of_both : (begins : ℕ) (kind : Option ScopeKind) (outer : List Scope) → list_any is_parameters (scope_at begins kind ++ outer) ≡ (list_any is_parameters (scope_at begins kind) || list_any is_parameters outer)
of_both begins None outer = refl
of_both begins (Some kind) outer = elim (is_parameters (Inner kind begins)) as (λ v. (v || list_any is_parameters outer) ≡ ((v || false) || list_any is_parameters outer)) [ true ↦ refl | false ↦ refl ]

-- what is in a function or in a node that is one
of_either : (head : Head) (field : ℕ) (inside : Bool) → (is_inside (standing_in head) field || inside) ≡ is_inside (standing_of head inside) field
of_either head field inside = elim inside as (λ v. (is_inside (standing_in head) field || v) ≡ is_inside (standing_of head v) field) [ true ↦ or_true (is_inside (standing_in head) field) | false ↦ or_false (is_inside (standing_in head) field) ]
  where
    or_true : (b : Bool) → (b || true) ≡ true
    or_true true = refl
    or_true false = refl

    or_false : (b : Bool) → (b || false) ≡ b
    or_false true = refl
    or_false false = refl

-- a place in this field of the innermost node stands in a function exactly if its node says so
in_function : (field : ℕ) (path : List Around) → is_in_function (in_field field path) ≡ is_first_inside (nested path) field
in_function field [] = refl
in_function field (node ∷ outer) =
    of_both node.begins (kind_of_scope node.head field outer) (scopes_around Es outer)
    ∙ ap (λ v. v || is_in_function outer) (by_kind node.head node.begins field outer)
    ∙ of_either node.head field (is_in_function outer)

-- the field does not matter to what is outside
nested-field : (field : ℕ) (path : List Around) → nested (in_field field path) ≡ nested path
nested-field field [] = refl
nested-field field (node ∷ outer) = refl

nested-outer : (path : List Around) → nested (outer_path path) ≡ without_first (nested path)
nested-outer [] = refl
nested-outer (node ∷ []) = refl
nested-outer (node ∷ next ∷ outer) = refl

-- the open nodes behind an element
nested-past : (spot : Spot) (x : Item) → nested (past spot x).path ≡ nested_past (nested spot.path) x
nested-past spot (h.Open field head) =
    ap (λ v. standing_of head v ∷ nested (in_field field spot.path)) (in_function field spot.path)
    ∙ ap (λ more. standing_of head (is_first_inside (nested spot.path) field) ∷ more) (nested-field field spot.path)
nested-past spot (h.Ident field symbol ctxt role) = refl
nested-past spot (h.Hole field) = refl
nested-past spot h.Close = nested-outer spot.path

-- one element awaits outside functions
awaits-at : (path : List Around) (x : Item) → (awaits_here x && not (is_in_function (path_to path x))) ≡ awaits_at (nested path) x
awaits-at path (h.Open field head) = ap (λ v. awaits head && not v) (in_function field path)
awaits-at path (h.Ident field symbol ctxt role) = refl
awaits-at path (h.Hole field) = refl
awaits-at path h.Close = refl

-- what stands at a place from which on these elements are left
at_place : (tree rest : List Item) (place : ℕ) (x : Item) → drop place tree ≡ x ∷ rest → slice_get tree place ≡ Some x
at_place tree rest place x e =
    let n : place + 0 ≡ place = omega arith in
    sym (ap (slice_get tree) n) ∙ sym (slice_get-drop place tree 0) ∙ ap (λ xs. slice_get xs 0) e

-- what is left behind it
abbrev tail_of : List Item → List Item
tail_of [] = []
tail_of (x ∷ rest) = rest

-- the elements from a place on await outside functions by the nodes that are open there exactly if they do by their places
awaits-from : (tree rest : List Item) (place : ℕ) → drop place tree ≡ rest → awaits_from tree place rest ≡ awaits_in (nested (spot_before tree place).path) rest
awaits-from tree [] place e = refl
awaits-from tree (x ∷ rest) place e =
    let here : slice_get tree place ≡ Some x = at_place tree rest place x e in
    let left : drop (suc place) tree ≡ rest = ap tail_of (sym (drop_at tree place x here) ∙ e) in
    let one : suc place ≡ place + 1 = omega arith in
    let next : nested (spot_before tree (suc place)).path ≡ nested_past (nested (spot_before tree place).path) x =
    ap (λ k. nested (spot_before tree k).path) one ∙ ap (λ (s : Spot). nested s.path) (spot_before-next tree place x here) ∙ nested-past (spot_before tree place) x in
    ap (λ o. (awaits_here x && not (is_in_function (path_to_option (spot_before tree place).path o))) || awaits_from tree (suc place) rest) here
    ∙ ap (λ v. v || awaits_from tree (suc place) rest) (awaits-at (spot_before tree place).path x)
    ∙ ap (λ v. awaits_at (nested (spot_before tree place).path) x || v) (awaits-from tree rest (suc place) left)
    ∙ ap (λ n. awaits_at (nested (spot_before tree place).path) x || awaits_in n rest) next

-- a tree awaits outside functions
pub awaits_in-tree : (tree : List Item) → awaits_in (Outside ∷ []) tree ≡ awaits_outside tree
awaits_in-tree tree = sym (awaits-from tree tree 0 refl)
