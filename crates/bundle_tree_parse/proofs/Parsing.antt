-- How what is left of a list follows from step to step.
use Rattle.std.proofs.Common.{◌≡◌, ℕ, zero, suc, ◌+◌, ◌-◌, ◌<◌, ◌≤◌, Bool, true, false, cond, List, [], ◌∷◌, ◌++◌, length, map, drop, get_or, drop-cons, Option, Some, None, Result, Ok, Err, refl, sym, ap, subst, ◌∙◌, arith}
use Rattle.std.proofs.lemmas.Bool.{false≢true}
use Rattle.std.proofs.lemmas.Grind.{common_steps}
use Rattle.std.specs.Prelude.{nat_eq}
use Rattle.bundle_tree_parse.specs.Built.{Builds, BuildsNode, BuildsLeaf, Leaves}
use Rattle.bundle_tree_listed.proofs.Rows.{rows}
use Rattle.bundle_tree_listed.proofs.Steps.{steps}
use Rattle.bundle_syntax.specs.declared.piece.Role.{Role}
use Rattle.bundle_tree_parse.specs.declared.build.BuildError.{BuildError}
use Rattle.bundle_tree_parse.specs.declared.build.BuildError.TheVariants.{Form}
use Rattle.bundle_syntax.specs.Item as h
use Rattle.bundle_syntax.specs.declared.piece.Piece.{Piece}
use Rattle.bundle_syntax.specs.Item.{Item, Head, item_of}
use Rattle.bundle_tree_parse.specs.Sorts.{Sort, Holding, AnIdent, AModuleName, AString, Refused, Fields, holds, name_of}
use Rattle.bundle_tree_parse.proofs.Whole.{each_ended, each_more}
use Rattle.bundle_tree_parse.specs.Parse.{Taker, Opening, opened, begins_in, begins_with_ident, after_ident, after_name, after_each, after_close, after_inside, after_node, after_opening, after_one, closed, within, taken, then, is_zero, outwards, is_source, is_end, depth_behind, has_source}

pub within-more : (less room : ℕ) → less + 1 ≡ room → within room ≡ Some (taken less)
within-more less room e = subst (λ n. within n ≡ Some (taken less)) (let s : suc less ≡ room = omega (arith, e) in s) refl

pub within-none : (room : ℕ) → room < 1 → within room ≡ None
within-none room e = subst (λ n. within n ≡ None) (let s : zero ≡ room = omega (arith, e) in s) refl

-- A node that begins, and none.

a_node : (room : Option Taker) (sort : Sort) (field : ℕ) (list : List Item) (node : Opening) → opened field list ≡ Some node → after_one room sort field list ≡ after_node room (holds sort node.head) node.inside
unfolding after_one
a_node room sort field list node e = ap (after_opening room sort field list) e

no_opening : (room : Option Taker) (sort : Sort) (field : ℕ) (list : List Item) → opened field list ≡ None → after_one room sort field list ≡ after_name (name_of sort) field list
unfolding after_one
no_opening room sort field list e = ap (after_opening room sort field list) e

-- A name, and what is none and no node.

pub an_ident : (room : Option Taker) (sort : Sort) (field : ℕ) (list : List Item) → begins_with_ident list ≡ true → after_one room sort field list ≡ after_name (name_of sort) field list
unfolding after_one
an_ident room sort field [] e = absurd (false≢true e)
an_ident room sort field (h.Ident at x ctxt role ∷ rest) e = refl
an_ident room sort field (h.Hole at ∷ rest) e = absurd (false≢true e)
an_ident room sort field (h.Close ∷ rest) e = absurd (false≢true e)
an_ident room sort field (h.Open at it ∷ rest) e = absurd (false≢true e)

no_name : (name : Option Role) (field : ℕ) (list : List Item) → begins_with_ident list ≡ false → after_name name field list ≡ None
no_name None field list e = refl
no_name (Some role) field [] e = refl
no_name (Some role) field (h.Ident at x ctxt found ∷ rest) e = absurd (false≢true (sym e))
no_name (Some role) field (h.Hole at ∷ rest) e = refl
no_name (Some role) field (h.Close ∷ rest) e = refl
no_name (Some role) field (h.Open at it ∷ rest) e = refl

pub neither : (room : Option Taker) (sort : Sort) (field : ℕ) (list : List Item) → begins_with_ident list ≡ false → opened field list ≡ None → after_one room sort field list ≡ None
neither room sort field list e none = no_opening room sort field list none ∙ no_name (name_of sort) field list e

pub nothing_opened : (room : Option Taker) (sort : Sort) (field : ℕ) (list : List Item) → name_of sort ≡ None → opened field list ≡ None → after_one room sort field list ≡ None
nothing_opened room sort field list e none = no_opening room sort field list none ∙ ap (λ name. after_name name field list) e

held_none : (room : Option Taker) (list : List Item) → after_node room Refused list ≡ None
held_none None list = refl
held_none (Some taker) list = refl

-- where only a name may stand
pub name_place : (room : Option Taker) (role : Role) (field : ℕ) (list : List Item) → after_one room (AnIdent role) field list ≡ after_ident role field list
unfolding after_one
name_place room role field [] = refl
name_place room role field (h.Ident at x ctxt found ∷ rest) = refl
name_place room role field (h.Hole at ∷ rest) = refl
name_place room role field (h.Close ∷ rest) = refl
name_place room role field (h.Open at it ∷ rest) = here (nat_eq at field)
  where
    here : (found : Bool) → after_opening room (AnIdent role) field (h.Open at it ∷ rest) (cond found (Some (record { head = it; inside = rest })) None) ≡ None
    here true = held_none room rest
    here false = refl

same_string : (role : Role) (head : Head) → holds (AModuleName role) head ≡ holds AString head
same_string role (h.Str value raw) = refl
same_string role _ = refl

-- A node, by what was made of its inside and by its end.

pub place_entered : (room less field : ℕ) (list inside : List Item) (head : Head) → opened field list ≡ Some (record { head = head; inside = inside }) → within room ≡ Some (taken less) → (sort : Sort) → taken room sort field list ≡ closed (after_inside (taken less) (holds sort head) inside)
place_entered room less field list inside head e fits sort =
    a_node (within room) sort field list (record { head = head; inside = inside }) e
    ∙ ap (λ o. after_node o (holds sort head) inside) fits

pub place_full : (room field : ℕ) (list inside : List Item) (head : Head) → opened field list ≡ Some (record { head = head; inside = inside }) → within room ≡ None → (sort : Sort) → taken room sort field list ≡ None
place_full room field list inside head e full sort =
    a_node (within room) sort field list (record { head = head; inside = inside }) e
    ∙ ap (λ o. after_node o (holds sort head) inside) full

pub place_unopened : (room field : ℕ) (list : List Item) → opened field list ≡ None → (sort : Sort) → after_name (name_of sort) field list ≡ None → taken room sort field list ≡ None
place_unopened room field list e sort none = no_opening (within room) sort field list e ∙ none

-- what is made of a node, by what is made of its inside and by its end
pub place_built : {T : Type 0} (made result : Result T BuildError) (items : ℕ → T → List Item) (field : ℕ) (head : Head) (all within : Option (List Item)) (list inside left rest : List Item) → all ≡ closed within → list ≡ h.Open field head ∷ inside → BuildsNode made items head within inside left → Leaves made result left rest → Builds result (items field) all list rest
place_built (Ok x) (Ok it) items field head all within list inside left rest is opening of (same, end) =
    let equal : x ≡ it = cc in
    (is ∙ (ap closed (of.0) ∙ ap after_close end), opening ∙ subst (λ y. h.Open field head ∷ inside ≡ items field y ++ rest) equal (of.1 field rest end))
place_built (Err first) (Ok it) items field head all within list inside left rest is opening of (same, end) = absurd (cc)
place_built (Ok x) (Err why) items field head all within list inside left rest is opening of ends = λ form. is ∙ (ap closed (of.0) ∙ (ends form).0)
place_built (Err first) (Err why) items field head all within list inside left rest is opening of ends = λ form. is ∙ ap closed (of ((ends form).1))

-- the same of a node that holds nothing
pub leaf_built : {T : Type 0} (made result : Result T BuildError) (items : ℕ → T → List Item) (field : ℕ) (head : Head) (all : Option (List Item)) (taker : Taker) (kept : Holding) (list inside rest : List Item) → all ≡ closed (after_inside taker kept inside) → list ≡ h.Open field head ∷ inside → BuildsLeaf made items head kept → Leaves made result inside rest → Builds result (items field) all list rest
leaf_built {T} made result items field head all taker kept list inside rest is opening of ends =
    place_built made result items field head all (after_inside taker kept inside) list inside inside rest is opening (node made of) ends
  where
    node : (made : Result T BuildError) → BuildsLeaf made items head kept → BuildsNode made items head (after_inside taker kept inside) inside inside
    node (Ok it) so = (ap (λ o. after_inside taker o inside) (so.0), λ at behind e. ap (λ (l : List Item). h.Open at head ∷ l) e ∙ so.1 at behind)
    node (Err why) so = λ form. ap (λ o. after_inside taker o inside) (so form)

-- where a name may stand, or a string
pub string_place : (room : Option Taker) (role : Role) (field : ℕ) (list : List Item) → begins_with_ident list ≡ false → after_one room (AModuleName role) field list ≡ after_one room AString field list
unfolding after_one
string_place room role field [] e = refl
string_place room role field (h.Ident at x ctxt found ∷ rest) e = absurd (false≢true (sym e))
string_place room role field (h.Hole at ∷ rest) e = refl
string_place room role field (h.Close ∷ rest) e = refl
string_place room role field (h.Open at it ∷ rest) e = here (nat_eq at field)
  where
    here : (found : Bool) → after_opening room (AModuleName role) field (h.Open at it ∷ rest) (cond found (Some (record { head = it; inside = rest })) None) ≡ after_opening room AString field (h.Open at it ∷ rest) (cond found (Some (record { head = it; inside = rest })) None)
    here true = ap (λ o. after_node room o rest) (same_string role it)
    here false = refl

-- The elements of a loop.

pub each_next : (one : List Item → Option (List Item)) (field most count : ℕ) (list next : List Item) → count < most → begins_in field list ≡ true → one list ≡ Some next → after_each one field (most - count) list ≡ after_each one field (most - (count + 1)) next
each_next one field most count list next lt e is =
    let fewer : most - count ≡ suc (most - (count + 1)) = omega (arith, lt) in
    subst (λ n. after_each one field n list ≡ after_each one field (most - (count + 1)) next) (sym fewer) (each_more one field (most - (count + 1)) list e ∙ ap (then (after_each one field (most - (count + 1)))) is)

pub each_refused : (one : List Item → Option (List Item)) (field most count : ℕ) (list : List Item) → count < most → begins_in field list ≡ true → one list ≡ None → after_each one field (most - count) list ≡ None
each_refused one field most count list lt e is =
    let fewer : most - count ≡ suc (most - (count + 1)) = omega (arith, lt) in
    subst (λ n. after_each one field n list ≡ None) (sym fewer) (each_more one field (most - (count + 1)) list e ∙ ap (then (after_each one field (most - (count + 1)))) is)

pub each_over : (one : List Item → Option (List Item)) (field most count : ℕ) (list : List Item) → most ≤ count → after_each one field (most - count) list ≡ Some list
each_over one field most count list le =
    let over : most - count ≡ 0 = omega (arith, le) in
    subst (λ n. after_each one field n list ≡ Some list) (sym over) refl

-- Whether an export list has a source.

-- the piece at a place, and those behind it
pub read-at : (pieces : List Piece) (place : ℕ) (x : Piece) → place < length pieces → x ≡ get_or pieces place x → map item_of (drop place pieces) ≡ item_of x ∷ map item_of (drop (place + 1) pieces)
read-at pieces place x inside is =
    let next : suc place ≡ place + 1 = omega arith in
    ap (map item_of) (drop-cons pieces place x inside ∙ ap (λ (y : Piece). y ∷ drop (suc place) pieces) (sym is))
    ∙ ap (λ n. item_of x ∷ map item_of (drop n pieces)) next

pub zero_is : (n : ℕ) → n ≡ 0 → is_zero n ≡ true
zero_is n e = subst (λ m. is_zero m ≡ true) (sym e) refl

pub more_than_zero : (n : ℕ) → (n ≡ 0 → ⊥) → is_zero n ≡ false
more_than_zero zero more = absurd (more refl)
more_than_zero (suc n) more = refl

pub outwards_is : (n : ℕ) → outwards n ≡ n - 1
outwards_is zero = refl
outwards_is (suc n) = omega arith

pub source_here : (depth : ℕ) (item : Item) (rest : List Item) → is_source depth item ≡ true → has_source depth (item ∷ rest) ≡ true
source_here depth item rest e = rw e refl

pub source_ended : (depth : ℕ) (item : Item) (rest : List Item) → is_source depth item ≡ false → is_end depth item ≡ true → has_source depth (item ∷ rest) ≡ false
source_ended depth item rest e end = rw (e, end) refl

pub source_past : (depth : ℕ) (item : Item) (rest : List Item) → is_source depth item ≡ false → is_end depth item ≡ false → has_source depth (item ∷ rest) ≡ has_source (depth_behind depth item) rest
source_past depth item rest e end = rw (e, end) refl

-- all of them, as the proofs of what has no fields use them
pub ruleset parsing = (
  common_steps,
  within-more,
  within-none,
  place_entered,
  place_full,
  place_unopened,
  an_ident,
  neither,
  nothing_opened,
  name_place,
  source_here,
  source_ended,
  source_past,
  read-at,
  zero_is,
  more_than_zero,
  outwards_is,
  each_ended,
  each_next,
  each_refused,
  each_over,
)

-- all of them, with what a tree is as a list
pub ruleset building = (
  rows,
  steps,
  within-more,
  within-none,
  an_ident,
  neither,
  nothing_opened,
  name_place,
  each_ended,
  each_next,
  each_refused,
  each_over,
)
