-- Lists in which each field holds what may stand there are taken whole.
use Rattle.std.proofs.Common.{◌≡◌, ℕ, zero, suc, ◌+◌, ◌≤◌, Bool, true, false, ◌||◌, List, [], ◌∷◌, ◌++◌, length, append_assoc, length-append, Option, Some, None, refl, sym, ap, subst, ◌∙◌, arith}
use Rattle.std.proofs.lemmas.Bool.{false≢true}
use Rattle.std.proofs.Math.Dec.{eqb_refl}
use Rattle.std.specs.Prelude.{T, nat_eq}
use Rattle.bundle_syntax.specs.declared.piece.Role.{Role}
use Rattle.bundle_syntax.specs.declared.piece.Role.TheVariants as r
use Rattle.bundle_syntax.specs.Item as h
use Rattle.bundle_syntax.specs.Item.{Item, Head}
use Rattle.bundle_tree_parse.specs.Sorts.{Sort, Count, One, Optional, Many, Places, Slot, slot, Fields, Exports, holds, name_of}
use Rattle.bundle_tree_parse.specs.Standing.{is_needed, after, has_number, AreIn, no_more, over, a_name, a_hole, a_node, an_export_list, IsIn, name, node, export_list, AreEach, ended, next}
use Rattle.bundle_tree_parse.specs.Parse.{Taker, begins_in, begins_with_hole, same_role, after_name, after_maybe, after_each, after_place, after_slots, after_node, after_one, closed, then, within, taken, has_source, export_slots}

-- Small facts.

so_true : (b : Bool) → T b → b ≡ true
so_true true holds_it = refl
so_true false holds_it = absurd holds_it

same_number : (n : ℕ) → nat_eq n n ≡ true
same_number n = so_true (nat_eq n n) (eqb_refl n)

role_itself : (role : Role) → same_role role role ≡ true
role_itself r.Binding = refl
role_itself r.Reference = refl
role_itself r.Word = refl

left_of : (a b : Bool) → a || b ≡ false → a ≡ false
left_of false b e = refl
left_of true b e = absurd (false≢true (sym e))

right_of : (a b : Bool) → a || b ≡ false → b ≡ false
right_of false b e = e
right_of true b e = absurd (false≢true (sym e))

pub each_ended : (one : List Item → Option (List Item)) (field most : ℕ) (list : List Item) → begins_in field list ≡ false → after_each one field most list ≡ Some list
each_ended one field zero list e = refl
each_ended one field (suc most) list e = rw e refl

pub each_more : (one : List Item → Option (List Item)) (field most : ℕ) (list : List Item) → begins_in field list ≡ true → after_each one field (suc most) list ≡ then (after_each one field most) (one list)
each_more one field most list e = rw e refl

-- where a list of fields begins
starts : {slots : List Slot} {items : List Item} → AreIn slots items → (number : ℕ) → has_number number slots ≡ false → (rest : List Item) → begins_in number (items ++ h.Close ∷ rest) ≡ false
starts no_more number e rest = refl
starts (over {number = at} {more = more} needed free them) number e rest = starts them number (right_of (nat_eq at number) (has_number number more) e) rest
starts (a_name {number = at} {more = more} is them) number e rest = left_of (nat_eq at number) (has_number number more) e
starts (a_hole {number = at} {more = more} them) number e rest = left_of (nat_eq at number) (has_number number more) e
starts (a_node {number = at} {more = more} is inside them) number e rest = left_of (nat_eq at number) (has_number number more) e
starts (an_export_list {number = at} {more = more} is source inside them) number e rest = left_of (nat_eq at number) (has_number number more) e

-- the first field, where so many may stand in it
after_first : ℕ → Taker → Slot → List Item → Option (List Item)
after_first most taker (slot field One sort) list = taker sort field list
after_first most taker (slot field Optional sort) list = after_maybe (taker sort field) field list
after_first most taker (slot field Many sort) list = after_each (taker sort field) field most list
after_first most taker (slot field Places sort) list = after_each (after_place (taker sort field) field) field most list

after_most : ℕ → Taker → List Slot → List Item → Option (List Item)
after_most most taker [] list = Some list
after_most most taker (it ∷ more) list = then (after_slots taker more) (after_first most taker it list)

all_most : (taker : Taker) (slots : List Slot) (list : List Item) → after_slots taker slots list ≡ after_most (length list) taker slots list
unfolding after_most after_first
all_most taker [] list = refl
all_most taker (slot field One sort ∷ more) list = refl
all_most taker (slot field Optional sort ∷ more) list = refl
all_most taker (slot field Many sort ∷ more) list = refl
all_most taker (slot field Places sort ∷ more) list = refl

-- one more stands in the first field
step : (taker : Taker) (field : ℕ) (count : Count) (sort : Sort) (more : List Slot) (list behind end : List Item) (least most : ℕ) → taker sort field list ≡ Some behind → begins_in field list ≡ true → begins_with_hole list ≡ false → least ≤ most → least ≤ length behind → ((many : ℕ) → least ≤ many → after_most many taker (after field count sort more) behind ≡ Some end) → after_most (suc most) taker (slot field count sort ∷ more) list ≡ Some end
unfolding after_most after_first
step taker field One sort more list behind end least most e begins hole le fits goes = ap (then (after_slots taker more)) e ∙ (all_most taker more behind ∙ goes (length behind) fits)
step taker field Optional sort more list behind end least most e begins hole le fits goes = rw (begins, e) (all_most taker more behind ∙ goes (length behind) fits)
step taker field Many sort more list behind end least most e begins hole le fits goes = ap (then (after_slots taker more)) (each_more (taker sort field) field most list begins ∙ ap (then (after_each (taker sort field) field most)) e) ∙ goes most le
step taker field Places sort more list behind end least most e begins hole le fits goes =
    let placed : after_place (taker sort field) field list ≡ Some behind = rw hole e in
    ap (then (after_slots taker more)) (each_more (after_place (taker sort field) field) field most list begins ∙ ap (then (after_each (after_place (taker sort field) field) field most)) placed) ∙ goes most le

-- nothing stands in the first field
skip : (taker : Taker) (field : ℕ) (count : Count) (sort : Sort) (more : List Slot) (list : List Item) (most : ℕ) → is_needed count ≡ false → begins_in field list ≡ false → after_most most taker (slot field count sort ∷ more) list ≡ after_slots taker more list
unfolding after_most after_first
skip taker field One sort more list most needed e = absurd (false≢true (sym needed))
skip taker field Optional sort more list most needed e = rw e refl
skip taker field Many sort more list most needed e = ap (then (after_slots taker more)) (each_ended (taker sort field) field most list e)
skip taker field Places sort more list most needed e = ap (then (after_slots taker more)) (each_ended (after_place (taker sort field) field) field most list e)

-- a place that holds nothing
empty_place : (taker : Taker) (field : ℕ) (sort : Sort) (more : List Slot) (list : List Item) (most : ℕ) → after_most (suc most) taker (slot field Places sort ∷ more) (h.Hole field ∷ list) ≡ after_most most taker (slot field Places sort ∷ more) list
unfolding after_most after_first
empty_place taker field sort more list most =
    let placed : after_place (taker sort field) field (h.Hole field ∷ list) ≡ Some list = rw (same_number field) refl in
    ap (then (after_slots taker more)) (each_more (after_place (taker sort field) field) field most (h.Hole field ∷ list) (same_number field) ∙ ap (then (after_each (after_place (taker sort field) field) field most)) placed)

name_taken : (room : ℕ) (sort : Sort) (field : ℕ) (x : List ℕ) (ctxt : ℕ) (role : Role) (rest : List Item) → name_of sort ≡ Some role → taken room sort field (h.Ident field x ctxt role ∷ rest) ≡ Some rest
unfolding after_one
name_taken room sort field x ctxt role rest e = ap (λ o. after_name o field (h.Ident field x ctxt role ∷ rest)) e ∙ rw (same_number field, role_itself role) refl

opened_node : (room : ℕ) (sort : Sort) (field : ℕ) (head : Head) (list : List Item) → taken room sort field (h.Open field head ∷ list) ≡ after_node (within room) (holds sort head) list
unfolding after_one
opened_node room sort field head list = rw (same_number field) refl

node_taken : (room : ℕ) (sort : Sort) (field : ℕ) (head : Head) (all : List Slot) (list rest : List Item) → holds sort head ≡ Fields all → after_slots (taken room) all list ≡ Some (h.Close ∷ rest) → taken (suc room) sort field (h.Open field head ∷ list) ≡ Some rest
node_taken room sort field head all list rest e is = opened_node (suc room) sort field head list ∙ (ap (λ o. after_node (within (suc room)) o list) e ∙ ap closed is)

list_taken : (room : ℕ) (sort : Sort) (field : ℕ) (head : Head) (source : Bool) (list rest : List Item) → holds sort head ≡ Exports → has_source zero list ≡ source → after_slots (taken room) (export_slots source) list ≡ Some (h.Close ∷ rest) → taken (suc room) sort field (h.Open field head ∷ list) ≡ Some rest
list_taken room sort field head source list rest e has is = opened_node (suc room) sort field head list ∙ (ap (λ o. after_node (within (suc room)) o list) e ∙ (ap (λ b. closed (after_slots (taken room) (export_slots b) list)) has ∙ ap closed is))

-- what stands in the fields of a node is taken, and its end is left
whole : {slots : List Slot} {items : List Item} → AreIn slots items → (room most : ℕ) (rest : List Item) → length items ≤ room → length items ≤ most → after_most most (taken room) slots (items ++ h.Close ∷ rest) ≡ Some (h.Close ∷ rest)
unfolding after_most
whole no_more room most rest fits few = refl
whole (over {number = n} {count = c} {sort = s} {more = more} {items = items} needed free them) room most rest fits few =
    skip (taken room) n c s more (items ++ h.Close ∷ rest) most needed (starts them n free rest) ∙ (all_most (taken room) more (items ++ h.Close ∷ rest) ∙ whole them room (length (items ++ h.Close ∷ rest)) rest fits (rw length-append (omega arith)))
whole (a_name {rest = others} is them) room zero rest fits few = absurd (omega (arith, few))
whole (a_name {number = n} {count = c} {sort = s} {more = more} {x = x} {ctxt = ctxt} {role = role} {rest = others} is them) room (suc most) rest fits few =
    step (taken room) n c s more (h.Ident n x ctxt role ∷ (others ++ h.Close ∷ rest)) (others ++ h.Close ∷ rest) (h.Close ∷ rest) (length others) most (name_taken room s n x ctxt role (others ++ h.Close ∷ rest) is) (same_number n) refl (omega (arith, few)) (rw length-append (omega arith)) (λ many le. whole them room many rest (omega (arith, fits)) le)
whole (a_hole {rest = others} them) room zero rest fits few = absurd (omega (arith, few))
whole (a_hole {number = n} {sort = s} {more = more} {rest = others} them) room (suc most) rest fits few =
    empty_place (taken room) n s more (others ++ h.Close ∷ rest) most ∙ whole them room most rest (omega (arith, fits)) (omega (arith, few))
whole (a_node {inside = inside} {rest = others} is in_it them) room zero rest fits few = absurd (omega (arith, few))
whole (a_node {inside = inside} {rest = others} is in_it them) zero (suc most) rest fits few = absurd (omega (arith, fits))
whole (a_node {number = n} {count = c} {sort = s} {more = more} {all = all} {head = head} {inside = inside} {rest = others} is in_it them) (suc room) (suc most) rest fits few =
    let sizes : length (inside ++ h.Close ∷ others) ≡ length inside + suc (length others) = length-append inside (h.Close ∷ others) in
    let behind : List Item = others ++ h.Close ∷ rest in
    let within_it : after_slots (taken room) all (inside ++ h.Close ∷ behind) ≡ Some (h.Close ∷ behind) = all_most (taken room) all (inside ++ h.Close ∷ behind) ∙ whole in_it room (length (inside ++ h.Close ∷ behind)) behind (omega (arith, fits, sizes)) (rw length-append (omega arith)) in
    subst (λ list. after_most (suc most) (taken (suc room)) (slot n c s ∷ more) (h.Open n head ∷ list) ≡ Some (h.Close ∷ rest)) (sym (append_assoc inside (h.Close ∷ others) (h.Close ∷ rest)))
    (step (taken (suc room)) n c s more (h.Open n head ∷ (inside ++ h.Close ∷ behind)) behind (h.Close ∷ rest) (length others) most (node_taken room s n head all (inside ++ h.Close ∷ behind) behind is within_it) (same_number n) refl (omega (arith, few, sizes)) (rw length-append (omega arith)) (λ many le. whole them (suc room) many rest (omega (arith, fits, sizes)) le))
whole (an_export_list {inside = inside} {rest = others} is has in_it them) room zero rest fits few = absurd (omega (arith, few))
whole (an_export_list {inside = inside} {rest = others} is has in_it them) zero (suc most) rest fits few = absurd (omega (arith, fits))
whole (an_export_list {number = n} {count = c} {sort = s} {more = more} {head = head} {source = source} {inside = inside} {rest = others} is has in_it them) (suc room) (suc most) rest fits few =
    let sizes : length (inside ++ h.Close ∷ others) ≡ length inside + suc (length others) = length-append inside (h.Close ∷ others) in
    let behind : List Item = others ++ h.Close ∷ rest in
    let within_it : after_slots (taken room) (export_slots source) (inside ++ h.Close ∷ behind) ≡ Some (h.Close ∷ behind) = all_most (taken room) (export_slots source) (inside ++ h.Close ∷ behind) ∙ whole in_it room (length (inside ++ h.Close ∷ behind)) behind (omega (arith, fits, sizes)) (rw length-append (omega arith)) in
    subst (λ list. after_most (suc most) (taken (suc room)) (slot n c s ∷ more) (h.Open n head ∷ list) ≡ Some (h.Close ∷ rest)) (sym (append_assoc inside (h.Close ∷ others) (h.Close ∷ rest)))
    (step (taken (suc room)) n c s more (h.Open n head ∷ (inside ++ h.Close ∷ behind)) behind (h.Close ∷ rest) (length others) most (list_taken room s n head source (inside ++ h.Close ∷ behind) behind is (has behind) within_it) (same_number n) refl (omega (arith, few, sizes)) (rw length-append (omega arith)) (λ many le. whole them (suc room) many rest (omega (arith, fits, sizes)) le))

-- a node that may stand in a place is taken there
pub whole_node : {sort : Sort} {field : ℕ} {items : List Item} → IsIn sort field items → (room : ℕ) (rest : List Item) → length items ≤ room → taken room sort field (items ++ rest) ≡ Some rest
whole_node {sort} {field} (name {x = x} {ctxt = ctxt} {role = role} is) room rest fits = name_taken room sort field x ctxt role rest is
whole_node {sort} {field} (node {head = head} {all = all} {inside = inside} is in_it) zero rest fits = absurd (omega (arith, fits))
whole_node {sort} {field} (node {head = head} {all = all} {inside = inside} is in_it) (suc room) rest fits =
    let sizes : length (inside ++ h.Close ∷ []) ≡ length inside + 1 = length-append inside (h.Close ∷ []) in
    subst (λ list. taken (suc room) sort field (h.Open field head ∷ list) ≡ Some rest) (sym (append_assoc inside (h.Close ∷ []) rest))
    (node_taken room sort field head all (inside ++ h.Close ∷ rest) rest is (all_most (taken room) all (inside ++ h.Close ∷ rest) ∙ whole in_it room (length (inside ++ h.Close ∷ rest)) rest (omega (arith, fits, sizes)) (rw length-append (omega arith))))
whole_node {sort} {field} (export_list {head = head} {source = source} {inside = inside} is has in_it) zero rest fits = absurd (omega (arith, fits))
whole_node {sort} {field} (export_list {head = head} {source = source} {inside = inside} is has in_it) (suc room) rest fits =
    let sizes : length (inside ++ h.Close ∷ []) ≡ length inside + 1 = length-append inside (h.Close ∷ []) in
    subst (λ list. taken (suc room) sort field (h.Open field head ∷ list) ≡ Some rest) (sym (append_assoc inside (h.Close ∷ []) rest))
    (list_taken room sort field head source (inside ++ h.Close ∷ rest) rest is (has rest) (all_most (taken room) (export_slots source) (inside ++ h.Close ∷ rest) ∙ whole in_it room (length (inside ++ h.Close ∷ rest)) rest (omega (arith, fits, sizes)) (rw length-append (omega arith))))

-- a name or a node begins in its field, and is not nothing
begins : {sort : Sort} {field : ℕ} {items : List Item} → IsIn sort field items → (rest : List Item) → begins_in field (items ++ rest) ≡ true
begins {field = f} (name is) rest = same_number f
begins {field = f} (node is in_it) rest = same_number f
begins {field = f} (export_list is has in_it) rest = same_number f

takes_room : {sort : Sort} {field : ℕ} {items : List Item} → IsIn sort field items → 1 ≤ length items
takes_room (name is) = omega arith
takes_room (node is in_it) = omega arith
takes_room (export_list is has in_it) = omega arith

-- all that may stand one after the other in a field is taken there
pub whole_row : {sort : Sort} {field : ℕ} {items : List Item} → AreEach sort field items → (room most : ℕ) → length items ≤ room → length items ≤ most → after_each (taken room sort field) field most items ≡ Some []
whole_row ended room zero fits few = refl
whole_row ended room (suc most) fits few = refl
whole_row (next {items = items} {rest = rest} one more) room zero fits few = absurd (omega (arith, few, takes_room one, length-append items rest))
whole_row (next {sort = s} {field = f} {items = items} {rest = rest} one more) room (suc most) fits few =
    let sizes : length (items ++ rest) ≡ length items + length rest = length-append items rest in
    let some : 1 ≤ length items = takes_room one in
    each_more (taken room s f) f most (items ++ rest) (begins one rest)
    ∙ (ap (then (after_each (taken room s f) f most)) (whole_node one room rest (omega (arith, fits, sizes)))
    ∙ whole_row more room most (omega (arith, fits, sizes)) (omega (arith, few, sizes, some)))
