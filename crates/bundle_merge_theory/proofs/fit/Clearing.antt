-- What is fit stays so without its contexts and notes.
-- A name right in a member expression or a call refers; what stands first in an assignment stands
-- in field 1.
-- The nodes side by side in a list that is fit are fit one by one.
-- Each identifier that binds stands where names are declared.
-- Statements in a node are whole nodes by which a module of them can be called.
use Rattle.std.proofs.Common.{◌≡◌, ℕ, List, [], ◌∷◌, ◌++◌, refl, sym, ap, ◌∙◌, subst, ◌==◌, ◌&&◌, ◌||◌, Bool, true, false, not, eqb-true, zero, suc, append_assoc, eq-eqb, Option, Some, None}
use Rattle.std.proofs.lemmas.Bool.{false≢true, true≢false, and_parts, and_from}
use Rattle.std.specs.List.{AllByRecursion}
use Rattle.std.specs.Prelude.{slice_get, is_some}
use Rattle.std.proofs.lemmas.Option.{none-some, same_Some}
use Rattle.bundle_syntax.specs.declared.piece.Role.{Role}
use Rattle.bundle_syntax.specs.Item as h
use Rattle.bundle_syntax.specs.Item.{Item, Head}
use Rattle.bundle_syntax.specs.declared.piece.Role.TheVariants as r
use Rattle.bundle_rules.specs.Cleared.{cleared_head, cleared_item, cleared}
use Rattle.bundle_rules.specs.Nodes.{put_first, side_by_side, begins_in, parts}
use Rattle.bundle_rules.specs.Places.{Around, Spot, past, start, in_field, Occurrence, occurrences_from, is_binding}
use Rattle.bundle_rules.specs.Declarations.{Way, way_of, way_of_declarator}
use Rattle.bundle_rules.specs.Callable.{BeginsNamed, HasName}
use Rattle.bundle_scope_names.specs.fit.Sorts.{NodeSort, NodeSlot, slot, takes_head, names_of_sort, slots, NodeCount, One, Optional, Many, Places, takes_outer, takes_binding, takes_name, AModule, AnItem, ALocal, AnIdent, takes_declarator, AKey, ABindingIdent, AnExpr, takes_parameter}
use Rattle.bundle_scope_names.specs.fit.Fits.{AreFit, no_more, over, a_name, a_hole, a_node, IsFit, name, node, is_count_needed, fields_after, AreEach, ended, next}
use Rattle.bundle_scope_names.specs.fit.Seen.{each_slot, AreSeen, SortSteps}
use Rattle.bundle_scope_names.proofs.fit.Keys.{after_slot, seen}
use Rattle.bundle_scope_names.proofs.fit.Rows.{is_own, own_head, own_slots}
use Rattle.bundle_merge_theory.specs.noted.Listed.{Stand, Other, InReadOrCall, AtTarget, first_stand, next_to, NameFits, NodeFits, AreListed, nothing, name as name_listing, hole, node as node_listing}
use Rattle.bundle_merge_theory.proofs.grouped.WholeLemmas.{put_all, put_all-cons, put_all-append as put_all_append}
use Rattle.bundle_merge_theory.specs.grouped.Renaming.{HasWays}
use Rattle.bundle_merge_theory.specs.called.Within
use Rattle.bundle_merge_theory.specs.called.Within.{is_setter_key, head_has_parameters, may_hold, may_name, AreIn}

-- ---- clearing
pub takes_cleared : (head : Head) (sort : NodeSort) → takes_head (cleared_head head) sort ≡ takes_head head sort
takes_cleared (h.ImportDecl meta) sort = refl
takes_cleared (h.NamedExport meta) sort = refl
takes_cleared (h.ExportAll meta) sort = refl
takes_cleared (h.VarDecl kind meta) sort = refl
takes_cleared _ sort = refl

pub slots_cleared : (head : Head) (names : Role) → slots (cleared_head head) names ≡ slots head names
slots_cleared (h.ImportDecl meta) names = refl
slots_cleared (h.NamedExport meta) names = refl
slots_cleared (h.ExportAll meta) names = refl
slots_cleared (h.VarDecl kind meta) names = refl
slots_cleared _ names = refl

module _ (items_of : List Item → List Item) (empty : items_of [] ≡ []) (named : (n : ℕ) (x : List ℕ) (ctxt : ℕ) (role : Role) (rest : List Item) → (other : ℕ) × (items_of (h.Ident n x ctxt role ∷ rest) ≡ h.Ident n x other role ∷ items_of rest)) (holed : (n : ℕ) (rest : List Item) → items_of (h.Hole n ∷ rest) ≡ h.Hole n ∷ items_of rest) (opened : (n : ℕ) (head : Head) (rest : List Item) → items_of (h.Open n head ∷ rest) ≡ h.Open n (cleared_head head) ∷ items_of rest) (split : (xs rest : List Item) → items_of (xs ++ h.Close ∷ rest) ≡ items_of xs ++ h.Close ∷ items_of rest) where
  fit_so : {list : List NodeSlot} {items : List Item} → AreFit list items → AreFit list (items_of items)
  fit_so no_more = subst (AreFit []) (sym empty) no_more
  fit_so (over e fit) = over e (fit_so fit)
  fit_so (a_name {number = n} {count = c} {sort = k} {more = more} {x = x} {ctxt = t} {role = role} {rest = rest} it fit) = subst (AreFit (slot n c k ∷ more)) (sym (named n x t role rest).1) (a_name it (fit_so fit))
  fit_so (a_hole {number = n} {sort = k} {more = more} {rest = rest} fit) =
      subst (AreFit (slot n _ k ∷ more)) (sym (holed n rest)) (a_hole (fit_so fit))
  fit_so (a_node {number = n} {count = c} {sort = k} {more = more} {head = hd} {inside = ins} {rest = rest} it in_it fit) =
      subst (AreFit (slot n c k ∷ more)) (sym (opened n hd (ins ++ h.Close ∷ rest) ∙ ap (λ l. h.Open n (cleared_head hd) ∷ l) (split ins rest)))
      (a_node (takes_cleared hd k ∙ it) (subst (λ l. AreFit l (items_of ins)) (sym (slots_cleared hd (names_of_sort k))) (fit_so in_it)) (fit_so fit))

  one_so : {sort : NodeSort} {field : ℕ} {items : List Item} → IsFit sort field items →
      IsFit sort field (items_of items)
  one_so (name {sort = k} {field = n} {x = x} {ctxt = t} {role = role} it) =
      subst (IsFit k n)
      (sym ((named n x t role []).1 ∙ ap (λ l. h.Ident n x (named n x t role []).0 role ∷ l) empty))
      (name it)
  one_so (node {sort = k} {field = n} {head = hd} {inside = ins} it in_it) =
      subst (IsFit k n) (sym (opened n hd (ins ++ h.Close ∷ []) ∙ ap (λ l. h.Open n (cleared_head hd) ∷ l) (split ins [] ∙ ap (λ l. items_of ins ++ h.Close ∷ l) empty)))
      (node (takes_cleared hd k ∙ it) (subst (λ l. AreFit l (items_of ins)) (sym (slots_cleared hd (names_of_sort k))) (fit_so in_it)))

pub cleared_split : (xs rest : List Item) →
    cleared (xs ++ h.Close ∷ rest) ≡ cleared xs ++ h.Close ∷ cleared rest
cleared_split [] rest = refl
cleared_split (x ∷ xs) rest = ap (λ l. cleared_item x ∷ l) (cleared_split xs rest)

pub fit_cleared : {list : List NodeSlot} {items : List Item} → AreFit list items →
    AreFit list (cleared items)
fit_cleared fit =
    fit_so cleared refl (λ n x ctxt role rest. (0, refl)) (λ n rest. refl) (λ n head rest. refl)
    cleared_split fit

pub one_cleared : {sort : NodeSort} {field : ℕ} {items : List Item} → IsFit sort field items →
    IsFit sort field (cleared items)
one_cleared it =
    one_so cleared refl (λ n x ctxt role rest. (0, refl)) (λ n rest. refl) (λ n head rest. refl)
    cleared_split it

-- ---- listing

-- whether each name that such a field takes refers
abbrev refers : ℕ → NodeSort → Bool
refers number sort = not (takes_outer sort || takes_binding sort)

abbrev pub is_one : NodeCount → Bool
is_one One = true
is_one _ = false

-- what the fields are where an element stands so
abbrev pub suits : Stand → List NodeSlot → Bool
suits Other list = true
suits InReadOrCall list = each_slot refers list
suits AtTarget [] = true
suits AtTarget (slot number count sort ∷ more) = is_one count && (number == 1)

suits_first : (head : Head) (names : Role) → suits (first_stand head) (slots head names) ≡ true
suits_first h.MemberExpr names = refl
suits_first h.CallExpr names = refl
suits_first (h.AssignExpr op) names = refl
suits_first _ names = refl

needed : (c : NodeCount) (rest : Bool) → is_count_needed c ≡ false → (is_one c && rest) ≡ true → ⊥
needed One rest e ok = true≢false e
needed Optional rest e ok = false≢true ok
needed Many rest e ok = false≢true ok
needed Places rest e ok = false≢true ok

suits_next : (stand : Stand) (n : ℕ) (c : NodeCount) (k : NodeSort) (more : List NodeSlot) →
    suits stand (slot n c k ∷ more) ≡ true → suits (next_to stand) (fields_after n c k more) ≡ true
suits_next Other n c k more ok = refl
suits_next InReadOrCall n c k more ok = after_slot refers n c k more ok
suits_next AtTarget n c k more ok = refl

suits_over : (stand : Stand) (n : ℕ) (c : NodeCount) (k : NodeSort) (more : List NodeSlot) →
    is_count_needed c ≡ false → suits stand (slot n c k ∷ more) ≡ true → suits stand more ≡ true
suits_over Other n c k more e ok = refl
suits_over InReadOrCall n c k more e ok = (and_parts (refers n k) (each_slot refers more) ok).1
suits_over AtTarget n c k more e ok = absurd (needed c (n == 1) e ok)

neither : (a b : Bool) → not (a || b) ≡ true → (a ≡ true → ⊥) × (b ≡ true → ⊥)
neither true b e = absurd (false≢true e)
neither false true e = absurd (false≢true e)
neither false false e = (λ is. false≢true is, λ is. false≢true is)

name_fits : (stand : Stand) (role : Role) (n : ℕ) (c : NodeCount) (k : NodeSort) (more : List NodeSlot) →
    takes_name role k ≡ true → suits stand (slot n c k ∷ more) ≡ true → NameFits stand role
name_fits Other role n c k more it ok = tt
name_fits AtTarget role n c k more it ok = tt
name_fits InReadOrCall r.Reference n c k more it ok = refl
name_fits InReadOrCall r.Binding n c k more it ok =
    absurd
    ((neither (takes_outer k) (takes_binding k) (and_parts (refers n k) (each_slot refers more) ok).0).1 it)
name_fits InReadOrCall r.Word n c k more it ok =
    absurd
    ((neither (takes_outer k) (takes_binding k) (and_parts (refers n k) (each_slot refers more) ok).0).0 it)

node_fits : (stand : Stand) (n : ℕ) (c : NodeCount) (k : NodeSort) (more : List NodeSlot) →
    suits stand (slot n c k ∷ more) ≡ true → NodeFits stand n
node_fits Other n c k more ok = tt
node_fits InReadOrCall n c k more ok = tt
node_fits AtTarget n c k more ok = eqb-true n 1 (and_parts (is_one c) (n == 1) ok).1

pub listed : {list : List NodeSlot} {items : List Item} → AreFit list items → (stand : Stand) →
    suits stand list ≡ true → AreListed stand items
listed no_more stand ok = nothing
listed (over {number = n} {count = c} {sort = k} {more = more} e fit) stand ok =
    listed fit stand (suits_over stand n c k more e ok)
listed (a_name {number = n} {count = c} {sort = k} {more = more} {role = role} it fit) stand ok =
    name_listing (name_fits stand role n c k more it ok)
    (listed fit (next_to stand) (suits_next stand n c k more ok))
listed (a_hole {number = n} {sort = k} {more = more} fit) stand ok =
    hole (listed fit (next_to stand) (suits_next stand n Places k more ok))
listed (a_node {number = n} {count = c} {sort = k} {more = more} {head = hd} it in_it fit) stand ok = node_listing (node_fits stand n c k more ok) (listed in_it (first_stand hd) (suits_first hd (names_of_sort k))) (listed fit (next_to stand) (suits_next stand n c k more ok))

-- ---- parts

-- in a node that is open
inner : {list : List NodeSlot} {xs : List Item} → AreFit list xs → (depth : ℕ) (ys : List Item) →
    side_by_side (suc depth) (xs ++ ys) ≡ put_all xs (side_by_side (suc depth) ys)
inner no_more depth ys = refl
inner (over e fit) depth ys = inner fit depth ys
inner (a_name {number = n} {x = x} {ctxt = t} {role = role} it fit) depth ys =
    ap (put_first (h.Ident n x t role)) (inner fit depth ys)
inner (a_hole {number = n} fit) depth ys = ap (put_first (h.Hole n)) (inner fit depth ys)
inner (a_node {number = n} {head = hd} {inside = ins} {rest = rest} it in_it fit) depth ys =
    ap (put_first (h.Open n hd)) (
    ap (side_by_side (suc (suc depth))) (append_assoc ins (h.Close ∷ rest) ys)
    ∙ inner in_it (suc depth) (h.Close ∷ (rest ++ ys))
    ∙ ap (λ l. put_all ins (put_first h.Close l)) (inner fit depth ys)
    ∙ sym (put_all_append ins (h.Close ∷ rest) (side_by_side (suc depth) ys))
    )

-- one name or one node stands first
pub beside : {sort : NodeSort} {field : ℕ} {items : List Item} → IsFit sort field items →
    (rest : List Item) → side_by_side zero (items ++ rest) ≡ items ∷ side_by_side zero rest
beside (name it) rest = refl
beside (node {field = n} {head = hd} {inside = ins} it in_it) rest =
    ap (λ l. put_first (h.Open n hd) (side_by_side (suc zero) l)) (append_assoc ins (h.Close ∷ []) rest)
    ∙ ap (put_first (h.Open n hd)) (inner in_it zero (h.Close ∷ rest))
    ∙ ap (put_first (h.Open n hd)) (put_all-cons ins (h.Close ∷ []) (side_by_side zero rest))

pub begins : {sort : NodeSort} {field : ℕ} {items : List Item} → IsFit sort field items →
    begins_in field items ≡ true
begins (name {field = n} it) = eq-eqb n n refl
begins (node {field = n} it in_it) = eq-eqb n n refl

-- each part of a list of nodes is fit
pub parts_fit : {sort : NodeSort} {field : ℕ} {items : List Item} → AreEach sort field items →
    (rest : List Item) →
    AllByRecursion (IsFit sort field) (side_by_side zero (items ++ h.Close ∷ rest))
parts_fit ended rest = tt
parts_fit (next {sort = s} {field = f} {items = items} {rest = more} it them) rest =
    subst (AllByRecursion (IsFit s f))
    (sym (ap (side_by_side zero) (append_assoc items more (h.Close ∷ rest)) ∙ beside it (more ++ h.Close ∷ rest)))
    (it, parts_fit them rest)

-- what stands in a field that holds one, and what follows
pub record StartsFit (sort : NodeSort) (field : ℕ) (more : List NodeSlot) (items : List Item) : Type 0 where
  pub front : List Item
  pub rest : List Item
  pub is : items ≡ front ++ rest
  pub it : IsFit sort field front
  pub fits : AreFit more rest

pub starts : {sort : NodeSort} {field : ℕ} {more : List NodeSlot} {items : List Item} →
    AreFit (slot field One sort ∷ more) items → StartsFit sort field more items
starts (over e fit) = absurd (true≢false e)
starts (a_name {number = n} {x = x} {ctxt = t} {role = role} {rest = rest} it fit) = record { front = h.Ident n x t role ∷ []; rest = rest; is = refl; it = name it; fits = fit }
starts (a_node {number = n} {head = hd} {inside = ins} {rest = rest} it in_it fit) = record { front = h.Open n hd ∷ (ins ++ h.Close ∷ []); rest = rest; is = ap (λ l. h.Open n hd ∷ l) (sym (append_assoc ins (h.Close ∷ []) rest)); it = node it in_it; fits = fit }

pub ends : {items : List Item} → AreFit [] items → items ≡ []
ends no_more = refl

pub each_of : {sort : NodeSort} {field : ℕ} {items : List Item} →
    AreFit (slot field Many sort ∷ []) items → AreEach sort field items
each_of {sort = s} {field = f} (over e fit) = subst (AreEach s f) (sym (ends fit)) ended
each_of (a_name it fit) = next (name it) (each_of fit)
each_of {sort = s} {field = f} (a_node {head = hd} {inside = ins} {rest = rest} it in_it fit) =
    subst (AreEach s f) (ap (λ l. h.Open f hd ∷ l) (append_assoc ins (h.Close ∷ []) rest))
    (next (node it in_it) (each_of fit))

-- the items of a module are fit
module_slots : (head : Head) → takes_head head AModule ≡ true →
    slots head (names_of_sort AModule) ≡ slot 0 Many AnItem ∷ []
module_slots h.Module is = refl
module_slots _ is = absurd (false≢true is)

pub no_name : (role : Role) → takes_name role AModule ≡ true → ⊥
no_name r.Binding is = false≢true is
no_name r.Reference is = false≢true is
no_name r.Word is = false≢true is

pub items_of_module : {field : ℕ} {tree : List Item} → IsFit AModule field tree →
    AllByRecursion (IsFit AnItem 0) (parts tree)
items_of_module (name {role = role} it) = absurd (no_name role it)
items_of_module (node {head = hd} {inside = ins} it in_it) =
    parts_fit (each_of (subst (λ l. AreFit l ins) (module_slots hd it) in_it)) []

-- ---- ways

-- where names are bound something declares them; a declarator stands in a declaration
abbrev pub declares : NodeSort → List Around → Bool
declares sort path =
    (not (is_binding (names_of_sort sort)) || is_some (way_of path)) &&
    (not (takes_declarator sort) || is_some (way_of_declarator path))

pub either : (a b : Bool) → a ≡ true → (not a || b) ≡ true → b ≡ true
either true b is e = e
either false b is e = absurd (false≢true is)

first : (sort : NodeSort) (path : List Around) → declares sort path ≡ true →
    (not (is_binding (names_of_sort sort)) || is_some (way_of path)) ≡ true
first sort path e =
    (and_parts (not (is_binding (names_of_sort sort)) || is_some (way_of path)) (not (takes_declarator sort) || is_some (way_of_declarator path)) e).0

second : (sort : NodeSort) (path : List Around) → takes_declarator sort ≡ true →
    declares sort path ≡ true → is_some (way_of_declarator path) ≡ true
second sort path is e =
    either (takes_declarator sort) (is_some (way_of_declarator path)) is
    (and_parts (not (is_binding (names_of_sort sort)) || is_some (way_of path)) (not (takes_declarator sort) || is_some (way_of_declarator path)) e).1

steps : SortSteps declares
steps h.VarDeclarator begins sort path is e =
    and_from _ _ (and_from _ _ (second sort path is e) refl) refl
steps h.BindingIdent begins sort path is e =
    and_from _ _ (and_from _ _ (first sort path e) refl) refl
steps h.ArrayPat begins sort path is e = and_from _ _ (and_from _ _ (first sort path e) refl) refl
steps h.ObjectPat begins sort path is e = and_from _ _ (and_from _ _ (first sort path e) refl) refl
steps h.RestPat begins sort path is e = and_from _ _ (and_from _ _ (first sort path e) refl) refl
steps h.AssignPat begins sort path is e = and_from _ _ (and_from _ _ (first sort path e) refl) refl
steps h.KeyValuePatProp begins sort path is e =
    and_from _ _ (and_from _ _ (first sort path e) refl) refl
steps h.AssignPatProp begins sort path is e =
    and_from _ _ (and_from _ _ (first sort path e) refl) refl
steps (h.NewExpr true) begins sort path is e = refl
steps (h.NewExpr false) begins sort path is e = refl
steps _ begins sort path is e = refl

pub bound : (sort : NodeSort) → takes_binding sort ≡ true → is_binding (names_of_sort sort) ≡ true
bound ALocal is = refl
bound (AnIdent r.Binding) is = refl
bound (AnIdent r.Reference) is = absurd (false≢true is)
bound (AnIdent r.Word) is = absurd (false≢true is)
bound _ is = absurd (false≢true is)

way_there : (role : Role) (sort : NodeSort) (path : List Around) → is_binding role ≡ true →
    takes_name role sort ≡ true → declares sort path ≡ true → is_some (way_of path) ≡ true
way_there r.Binding sort path binds is e =
    either (is_binding (names_of_sort sort)) (is_some (way_of path)) (bound sort is) (first sort path e)
way_there r.Reference sort path binds is e = absurd (false≢true binds)
way_there r.Word sort path binds is e = absurd (false≢true binds)

from_seen : (s : Spot) (items : List Item) → AreSeen declares s items → (n : ℕ) (o : Occurrence) →
    slice_get (occurrences_from s items) n ≡ Some o → is_binding o.role ≡ true →
    is_some (way_of o.path) ≡ true
from_seen s [] them n o e binds = absurd (none-some o e)
from_seen s (h.Open field head ∷ rest) them n o e binds =
    from_seen (past s (h.Open field head)) rest them.1 n o e binds
from_seen s (h.Hole field ∷ rest) them n o e binds =
    from_seen (past s (h.Hole field)) rest them.1 n o e binds
from_seen s (h.Close ∷ rest) them n o e binds = from_seen (past s h.Close) rest them.1 n o e binds
from_seen s (h.Ident field x ctxt r.Word ∷ rest) them n o e binds =
    from_seen (past s (h.Ident field x ctxt r.Word)) rest them.1 n o e binds
from_seen s (h.Ident field x ctxt r.Binding ∷ rest) them zero o e binds =
    subst (λ (it : Occurrence). is_some (way_of it.path) ≡ true) (same_Some _ _ e)
    (way_there r.Binding them.0.0 (in_field field s.path) refl them.0.1 them.0.2)
from_seen s (h.Ident field x ctxt r.Binding ∷ rest) them (suc n) o e binds =
    from_seen (past s (h.Ident field x ctxt r.Binding)) rest them.1 n o e binds
from_seen s (h.Ident field x ctxt r.Reference ∷ rest) them zero o e binds =
    absurd (false≢true (ap (λ (it : Occurrence). is_binding it.role) (same_Some _ _ e) ∙ binds))
from_seen s (h.Ident field x ctxt r.Reference ∷ rest) them (suc n) o e binds =
    from_seen (past s (h.Ident field x ctxt r.Reference)) rest them.1 n o e binds

some_way : (w : Option Way) → is_some w ≡ true → (it : Way) × (w ≡ Some it)
some_way None e = absurd (false≢true e)
some_way (Some it) e = (it, refl)

pub has_ways : {list : List NodeSlot} {items : List Item} → AreFit list items →
    each_slot (λ number sort. declares sort []) list ≡ true → HasWays items
has_ways {items = items} fit ok = record { way = λ n o e binds. some_way (way_of o.path) (from_seen start items (seen declares steps fit start ok) n o e binds) }

-- ---- within
abbrev pub is_plain_key : NodeSort → Bool
is_plain_key AKey = true
is_plain_key _ = false

-- parameters stand in functions, and a plain key in the key of a setter
abbrev pub seats : Head → ℕ → NodeSort → Bool
seats parent number sort =
    (not (takes_parameter sort) || head_has_parameters parent) &&
    (not (is_setter_key parent number) || is_plain_key sort)

seated_slots : (head : Head) (names : Role) → each_slot (seats head) (slots head names) ≡ true
seated_slots h.Module names = refl
seated_slots (h.NewExpr true) names = refl
seated_slots (h.NewExpr false) names = refl
seated_slots _ names = refl

key_is : (sort : NodeSort) → is_plain_key sort ≡ true → sort ≡ AKey
key_is AKey e = refl
key_is _ e = absurd (false≢true e)

parameters : (parent : Head) (n : ℕ) (sort : NodeSort) → takes_parameter sort ≡ true →
    seats parent n sort ≡ true → head_has_parameters parent ≡ true
parameters parent n sort is ok =
    either (takes_parameter sort) (head_has_parameters parent) is
    (and_parts (not (takes_parameter sort) || head_has_parameters parent) (not (is_setter_key parent n) || is_plain_key sort) ok).0

-- what stands in no key does not stand in that of a setter
apart : (test : NodeSort → Bool) → test AKey ≡ false → (b : Bool) (sort : NodeSort) → test sort ≡ true →
    (not b || is_plain_key sort) ≡ true → not b ≡ true
apart test none false sort is ok = refl
apart test none true sort is ok =
    absurd (false≢true (sym none ∙ (sym (ap test (key_is sort ok)) ∙ is)))

no_setter : (test : NodeSort → Bool) → test AKey ≡ false → (parent : Head) (n : ℕ) (sort : NodeSort) →
    test sort ≡ true → seats parent n sort ≡ true → not (is_setter_key parent n) ≡ true
no_setter test none parent n sort is ok =
    apart test none (is_setter_key parent n) sort is
    (and_parts (not (takes_parameter sort) || head_has_parameters parent) (not (is_setter_key parent n) || is_plain_key sort) ok).1

holds : (parent : Head) (n : ℕ) (head : Head) (sort : NodeSort) → takes_head head sort ≡ true →
    seats parent n sort ≡ true → may_hold parent n head ≡ true
holds parent n h.Param sort is ok = parameters parent n sort is ok
holds parent n h.BindingIdent sort is ok = no_setter (takes_head h.BindingIdent) refl parent n sort is ok
holds parent n h.ArrayPat sort is ok = no_setter (takes_head h.ArrayPat) refl parent n sort is ok
holds parent n h.ObjectPat sort is ok = no_setter (takes_head h.ObjectPat) refl parent n sort is ok
holds parent n h.RestPat sort is ok = no_setter (takes_head h.RestPat) refl parent n sort is ok
holds parent n h.AssignPat sort is ok = no_setter (takes_head h.AssignPat) refl parent n sort is ok
holds parent n h.KeyValuePatProp sort is ok =
    no_setter (takes_head h.KeyValuePatProp) refl parent n sort is ok
holds parent n h.AssignPatProp sort is ok =
    no_setter (takes_head h.AssignPatProp) refl parent n sort is ok
holds parent n _ sort is ok = refl

names_it : (parent : Head) (n : ℕ) (role : Role) (sort : NodeSort) → takes_name role sort ≡ true →
    seats parent n sort ≡ true → may_name parent n role ≡ true
names_it parent n r.Binding sort is ok = no_setter (takes_name r.Binding) refl parent n sort is ok
names_it parent n r.Reference sort is ok = refl
names_it parent n r.Word sort is ok = refl

-- The name of a shorthand property.

pub record IsName (items : List Item) : Type 0 where
  pub inner : ℕ
  pub sym : List ℕ
  pub ctxt : ℕ
  pub role : Role
  pub is : items ≡ h.Ident inner sym ctxt role ∷ []

pub no_node : (head : Head) (names : Role) → takes_head head (AnIdent names) ≡ true → ⊥
no_node h.Module names is = false≢true is
no_node _ names is = false≢true is

is_name : (names : Role) {items : List Item} → AreFit (slot 0 One (AnIdent names) ∷ []) items →
    IsName items
is_name names (over e fit) = absurd (true≢false e)
is_name names (a_name {x = x} {ctxt = t} {role = role} it fit) = record { inner = 0; sym = x; ctxt = t; role = role; is = ap (λ l. h.Ident 0 x t role ∷ l) (ends fit) }
is_name names (a_node {head = hd} it in_it fit) = absurd (no_node hd names it)

pub no_lone : (role names : Role) → takes_name role (ABindingIdent names) ≡ true → ⊥
no_lone r.Binding names is = false≢true is
no_lone r.Reference names is = false≢true is
no_lone r.Word names is = false≢true is

named_so : (head : Head) (names : Role) → takes_head head (ABindingIdent names) ≡ true →
    {inside : List Item} → AreFit (slots head (names_of_sort (ABindingIdent names))) inside →
    (more : List Item) → BeginsNamed (h.Open 0 head ∷ (inside ++ h.Close ∷ more))
named_so h.BindingIdent names is fit more = let n = is_name names fit in record { outer = 0; inner = n.inner; sym = n.sym; ctxt = n.ctxt; role = n.role; more = more; is = ap (λ l. h.Open 0 h.BindingIdent ∷ (l ++ h.Close ∷ more)) n.is }
named_so _ names is fit more = absurd (false≢true is)

begins_named : (names : Role) (fields_after : List NodeSlot) {items : List Item} →
    AreFit (slot 0 One (ABindingIdent names) ∷ fields_after) items → BeginsNamed items
begins_named names fields_after (over e fit) = absurd (true≢false e)
begins_named names fields_after (a_name {role = role} it fit) = absurd (no_lone role names it)
begins_named names fields_after (a_node {head = hd} {rest = rest} it in_it fit) =
    named_so hd names it in_it rest

has_name : (head : Head) (names : Role) {items : List Item} → AreFit (slots head names) items →
    HasName head items
has_name h.AssignPatProp names fit = begins_named names (slot 1 Optional AnExpr ∷ []) fit
has_name _ names fit = tt

pub are_in : {list : List NodeSlot} {items : List Item} → AreFit list items → (parent : Head) →
    each_slot (λ number sort. is_own sort) list ≡ true → each_slot (seats parent) list ≡ true →
    AreIn parent items
are_in no_more parent own ok = Within.no_more
are_in (over {number = n} {sort = k} {more = more} e fit) parent own ok =
    are_in fit parent (and_parts (is_own k) (each_slot (λ number sort. is_own sort) more) own).1
    (and_parts (seats parent n k) (each_slot (seats parent) more) ok).1
are_in (a_name {number = n} {count = c} {sort = k} {more = more} {role = role} it fit) parent own ok = Within.a_name (names_it parent n role k it (and_parts (seats parent n k) (each_slot (seats parent) more) ok).0) (are_in fit parent (after_slot (λ number sort. is_own sort) n c k more own) (after_slot (seats parent) n c k more ok))
are_in (a_hole fit) parent own ok = Within.a_hole (are_in fit parent own ok)
are_in (a_node {number = n} {count = c} {sort = k} {more = more} {head = hd} it in_it fit) parent own ok =
    let here = (and_parts (is_own k) (each_slot (λ number sort. is_own sort) more) own).0 in
    Within.a_node (own_head hd k it here) (holds parent n hd k it (and_parts (seats parent n k) (each_slot (seats parent) more) ok).0) (has_name hd (names_of_sort k) in_it)
    (are_in in_it hd (own_slots hd k it here) (seated_slots hd (names_of_sort k)))
    (are_in fit parent (after_slot (λ number sort. is_own sort) n c k more own) (after_slot (seats parent) n c k more ok))
