-- Lists of the grammar are those that a walk makes anew: nodes stand where they fit.
use Rattle.std.proofs.Common.{◌≡◌, ℕ, ◌&&◌, Bool, true, false, not, List, [], ◌∷◌, ◌++◌, Some, None, refl, ap, sym, ◌∙◌, subst}
use Rattle.std.proofs.lemmas.Bool.{false≢true}
use Rattle.std.proofs.lemmas.Option.{none-some, same_Some}
use Rattle.bundle_syntax.specs.declared.kind.MetaPropKind.TheVariants as p
use Rattle.bundle_syntax.specs.declared.piece.Role.{Role}
use Rattle.bundle_syntax.specs.declared.piece.Role.TheVariants as r
use Rattle.bundle_syntax.specs.Item as h
use Rattle.bundle_syntax.specs.Item.{Item, Head}
use Rattle.bundle_tree_places.specs.Edits.{Around, Anywhere, InObject, InSpecifier, is_occurrence, around_in, binding, ends_in_name, is_second_plain}
use Rattle.bundle_tree_parse.specs.Sorts.{Sort, AModuleName, AnExport, AnExpr, APropertyOrSpread, AnIdent, APattern, AnAssignPattern, AnArrayPattern, ARestPattern, AnObjectPattern, APatternProperty, ABindingIdent, Count, One, Optional, Many, Places, Slot, slot, Fields, Exports, takes, names_in, fields, is_binding_ident}
use Rattle.bundle_tree_parse.specs.Standing.{after, AreIn, no_more, over, a_name, a_hole, a_node, an_export_list, IsIn, AreEach}
use Rattle.bundle_tree_parse.proofs.Rows.{last, last_each}
use Rattle.bundle_tree_rebuild.specs.Fits.{Fits, Nothing, Hole, Name, Node, Shorthand, is_anywhere, is_empty, has_member_in_1, begins_with_hole}
use Rattle.bundle_tree_rewrite.proofs.grammar.Balance.{AreWhole, none_whole, name_whole, hole_whole, both_whole, binding_whole, then_whole, same_behind}
use Rattle.bundle_tree_rewrite.proofs.grammar.Fields.{right_true, left_true, both_true, slots_of, is_refused, MayHold, held_fields, from_holding}

-- What may be around.

-- whether no node stands there for which a name may stand
abbrev is_no_read : Sort → Bool
is_no_read sort = not (takes sort h.MemberExpr) && not (takes sort (h.MetaPropExpr p.ImportMeta))

abbrev are_no_reads : List Slot → Bool
are_no_reads [] = true
are_no_reads (slot number count sort ∷ more) = is_no_read sort && are_no_reads more

abbrev pub may_surround : Around → List Slot → Bool
may_surround Anywhere slots = true
may_surround InObject slots = are_no_reads slots
may_surround InSpecifier slots = are_no_reads slots

no_reads_behind : (number : ℕ) (count : Count) (sort : Sort) (more : List Slot) → are_no_reads (slot number count sort ∷ more) ≡ true → are_no_reads (after number count sort more) ≡ true
no_reads_behind number One sort more e = right_true (is_no_read sort) (are_no_reads more) e
no_reads_behind number Optional sort more e = right_true (is_no_read sort) (are_no_reads more) e
no_reads_behind number Many sort more e = e
no_reads_behind number Places sort more e = e

surrounds_more : (around : Around) (number : ℕ) (count : Count) (sort : Sort) (more : List Slot) → may_surround around (slot number count sort ∷ more) ≡ true → may_surround around more ≡ true
surrounds_more Anywhere number count sort more e = refl
surrounds_more InObject number count sort more e = right_true (is_no_read sort) (are_no_reads more) e
surrounds_more InSpecifier number count sort more e = right_true (is_no_read sort) (are_no_reads more) e

surrounds_behind : (around : Around) (number : ℕ) (count : Count) (sort : Sort) (more : List Slot) → may_surround around (slot number count sort ∷ more) ≡ true → may_surround around (after number count sort more) ≡ true
surrounds_behind Anywhere number count sort more e = refl
surrounds_behind InObject number count sort more e = no_reads_behind number count sort more e
surrounds_behind InSpecifier number count sort more e = no_reads_behind number count sort more e

-- in a node
surrounds_inside : (names : Role) (head : Head) (source : Bool) (inside : List Item) → may_surround (around_in head inside) (slots_of source (fields names head)) ≡ true
surrounds_inside names h.ImportNamedSpecifier source [] = refl
surrounds_inside names h.ImportNamedSpecifier source (item ∷ []) = refl
surrounds_inside names h.ImportNamedSpecifier source (item ∷ other ∷ rest) = refl
surrounds_inside names h.ExportNamedSpecifier source [] = refl
surrounds_inside names h.ExportNamedSpecifier source (item ∷ []) = refl
surrounds_inside names h.ExportNamedSpecifier source (item ∷ other ∷ rest) = refl
surrounds_inside names _ source inside = refl

not_taken : (taken other : Bool) → (not taken && other) ≡ true → taken ≡ true → false ≡ true
not_taken true other e is = e
not_taken false other e is = is

not_other : (other taken : Bool) → (other && not taken) ≡ true → taken ≡ true → false ≡ true
not_other true true e is = e
not_other true false e is = is
not_other false taken e is = e

-- a read stands anywhere
read_anywhere : (around : Around) (number : ℕ) (count : Count) (sort : Sort) (more : List Slot) → may_surround around (slot number count sort ∷ more) ≡ true → takes sort h.MemberExpr ≡ true → is_anywhere around ≡ true
read_anywhere Anywhere number count sort more e taken = refl
read_anywhere InObject number count sort more e taken = not_taken (takes sort h.MemberExpr) (not (takes sort (h.MetaPropExpr p.ImportMeta))) (left_true (is_no_read sort) (are_no_reads more) e) taken
read_anywhere InSpecifier number count sort more e taken = not_taken (takes sort h.MemberExpr) (not (takes sort (h.MetaPropExpr p.ImportMeta))) (left_true (is_no_read sort) (are_no_reads more) e) taken

meta_anywhere : (around : Around) (number : ℕ) (count : Count) (sort : Sort) (more : List Slot) → may_surround around (slot number count sort ∷ more) ≡ true → takes sort (h.MetaPropExpr p.ImportMeta) ≡ true → is_anywhere around ≡ true
meta_anywhere Anywhere number count sort more e taken = refl
meta_anywhere InObject number count sort more e taken = not_other (not (takes sort h.MemberExpr)) (takes sort (h.MetaPropExpr p.ImportMeta)) (left_true (is_no_read sort) (are_no_reads more) e) taken
meta_anywhere InSpecifier number count sort more e taken = not_other (not (takes sort h.MemberExpr)) (takes sort (h.MetaPropExpr p.ImportMeta)) (left_true (is_no_read sort) (are_no_reads more) e) taken

-- Names of patterns bind or refer.

abbrev pub may_occur : Sort → Bool
may_occur (APattern names) = is_occurrence names
may_occur (AnAssignPattern names) = is_occurrence names
may_occur (AnArrayPattern names) = is_occurrence names
may_occur (ARestPattern names) = is_occurrence names
may_occur (AnObjectPattern names) = is_occurrence names
may_occur (APatternProperty names) = is_occurrence names
may_occur (ABindingIdent names) = is_occurrence names
may_occur _ = true

abbrev pub may_all_occur : List Slot → Bool
may_all_occur [] = true
may_all_occur (slot number count sort ∷ more) = may_occur sort && may_all_occur more

occur_behind : (number : ℕ) (count : Count) (sort : Sort) (more : List Slot) → may_all_occur (slot number count sort ∷ more) ≡ true → may_all_occur (after number count sort more) ≡ true
occur_behind number One sort more e = right_true (may_occur sort) (may_all_occur more) e
occur_behind number Optional sort more e = right_true (may_occur sort) (may_all_occur more) e
occur_behind number Many sort more e = e
occur_behind number Places sort more e = e

occur_named : (names : Role) (head : Head) (source : Bool) → is_occurrence names ≡ true → may_all_occur (slots_of source (fields names head)) ≡ true
occur_named r.Word head source e = absurd (false≢true e)
occur_named names (h.NewExpr false) source e = refl
occur_named names (h.NewExpr true) source e = refl
occur_named names (h.NamedExport meta) false e = refl
occur_named names (h.NamedExport meta) true e = refl
occur_named r.Binding _ source e = refl
occur_named r.Reference _ source e = refl

occur_exported : (names : Role) (head : Head) (source : Bool) → takes (AnExport names) head ≡ true → may_all_occur (slots_of source (fields names head)) ≡ true
occur_exported names h.ExportNamespaceSpecifier source taken = refl
occur_exported names h.ExportNamedSpecifier source taken = refl
occur_exported names _ source taken = absurd (false≢true taken)

occur_string : (names : Role) (head : Head) (source : Bool) → takes (AModuleName names) head ≡ true → may_all_occur (slots_of source (fields names head)) ≡ true
occur_string names (h.Str value raw) source taken = refl
occur_string names _ source taken = absurd (false≢true taken)

occur_inside : (sort : Sort) (head : Head) (source : Bool) → may_occur sort ≡ true → takes sort head ≡ true → may_all_occur (slots_of source (fields (names_in sort) head)) ≡ true
occur_inside (AnExport names) head source may taken = occur_exported names head source taken
occur_inside (AModuleName names) head source may taken = occur_string names head source taken
occur_inside (AnIdent names) head source may taken = absurd (false≢true taken)
occur_inside (APattern names) head source may taken = occur_named names head source may
occur_inside (AnAssignPattern names) head source may taken = occur_named names head source may
occur_inside (AnArrayPattern names) head source may taken = occur_named names head source may
occur_inside (ARestPattern names) head source may taken = occur_named names head source may
occur_inside (AnObjectPattern names) head source may taken = occur_named names head source may
occur_inside (APatternProperty names) head source may taken = occur_named names head source may
occur_inside (ABindingIdent names) head source may taken = occur_named names head source may
occur_inside _ head source may taken = occur_named r.Reference head source refl

-- Specifiers.

ends_behind : (x y : Item) (rest : List Item) → ends_in_name (x ∷ y ∷ rest) ≡ ends_in_name (y ∷ rest)
ends_behind (h.Open field head) y rest = refl
ends_behind (h.Ident field x ctxt role) y rest = refl
ends_behind (h.Hole field) y rest = refl
ends_behind h.Close y rest = refl

ends_append : (front : List Item) (y : Item) (rest : List Item) → ends_in_name (front ++ y ∷ rest) ≡ ends_in_name (y ∷ rest)
ends_append [] y rest = refl
ends_append (x ∷ []) y rest = ends_behind x y rest
ends_append (x ∷ z ∷ front) y rest = ends_behind x z (front ++ y ∷ rest) ∙ ends_append (z ∷ front) y rest

is_word : {role : Role} → Some r.Word ≡ Some role → is_occurrence role ≡ false
is_word {role = r.Word} e = refl
is_word {role = r.Binding} e = cc
is_word {role = r.Reference} e = cc

-- a second name, or none, behind something
second_ends : {rest : List Item} (x : Item) → ends_in_name (x ∷ []) ≡ false → AreIn (slot 1 Optional (AModuleName r.Word) ∷ []) rest → ends_in_name (x ∷ rest) ≡ false
second_ends x alone (over needed free no_more) = alone
second_ends x alone (a_name {x = sym_of} {ctxt = ctxt} {role = role} is no_more) = ends_behind x (h.Ident 1 sym_of ctxt role) [] ∙ is_word is
second_ends x alone (a_node {head = head} {inside = inside} is within no_more) = ends_append (x ∷ h.Open 1 head ∷ inside) h.Close []
second_ends x alone (an_export_list {head = head} {inside = inside} is source within no_more) = ends_append (x ∷ h.Open 1 head ∷ inside) h.Close []

plain_second : (items : List Item) → ends_in_name items ≡ false → is_second_plain items ≡ true
plain_second [] e = refl
plain_second (x ∷ []) e = refl
plain_second (x ∷ y ∷ rest) e = ap not e

-- with a name first
named_second : {rest : List Item} (field : ℕ) (x : List ℕ) (ctxt : ℕ) (role : Role) → AreIn (slot 1 Optional (AModuleName r.Word) ∷ []) rest → is_second_plain (h.Ident field x ctxt role ∷ rest) ≡ true
named_second field x ctxt role (over needed free no_more) = refl
named_second field x ctxt role (a_name is no_more) = ap not (is_word is)
named_second field x ctxt role (a_node {head = head} {inside = inside} is within no_more) = ap not (ends_append (h.Open 1 head ∷ inside) h.Close [])
named_second field x ctxt role (an_export_list {head = head} {inside = inside} is source within no_more) = ap not (ends_append (h.Open 1 head ∷ inside) h.Close [])

-- with a string first
string_second : {rest : List Item} (field : ℕ) (head : Head) (inside : List Item) → AreIn (slot 1 Optional (AModuleName r.Word) ∷ []) rest → (is_second_plain (h.Open field head ∷ (inside ++ h.Close ∷ rest)) && true) ≡ true
string_second {rest = rest} field head inside them = both_true (is_second_plain (h.Open field head ∷ (inside ++ h.Close ∷ rest))) true (plain_second (h.Open field head ∷ (inside ++ h.Close ∷ rest)) (ends_append (h.Open field head ∷ inside) h.Close rest ∙ second_ends h.Close refl them)) refl

specifier_fits : {sort : Sort} {inside : List Item} → AreIn (slot 0 One sort ∷ slot 1 Optional (AModuleName r.Word) ∷ []) inside → (is_second_plain inside && not (begins_with_hole inside)) ≡ true
specifier_fits (over needed free them) = absurd (false≢true (sym needed))
specifier_fits (a_name {x = x} {ctxt = ctxt} {role = role} {rest = rest} is them) = both_true (is_second_plain (h.Ident 0 x ctxt role ∷ rest)) true (named_second 0 x ctxt role them) refl
specifier_fits (a_node {head = head} {inside = inside} is within them) = string_second 0 head inside them
specifier_fits (an_export_list {head = head} {inside = inside} is source within them) = string_second 0 head inside them

-- What is assigned to.

member_first : (head : Head) (rest : List Item) → has_member_in_1 (h.Open 1 head ∷ rest) ≡ true
member_first h.MemberExpr rest = refl
member_first _ rest = refl

target_fits : {sort : Sort} {more : List Slot} {inside : List Item} → AreIn (slot 1 One sort ∷ more) inside → has_member_in_1 inside ≡ true
target_fits (over needed free them) = absurd (false≢true (sym needed))
target_fits (a_name is them) = refl
target_fits (a_node {head = head} {inside = inside} {rest = rest} is within them) = member_first head (inside ++ h.Close ∷ rest)
target_fits (an_export_list {head = head} {inside = inside} {rest = rest} is source within them) = member_first head (inside ++ h.Close ∷ rest)

-- Shorthand properties of patterns.

data IsBinding : Head → Type 0 where
  is_binding : IsBinding h.BindingIdent

binding_of : (head : Head) → is_binding_ident head ≡ true → IsBinding head
binding_of h.BindingIdent e = is_binding
binding_of _ e = absurd (false≢true e)

-- a name as a pattern, and what stands behind it
data IsShort (names : Role) : List Item → Type 0 where
  is_short : (x : List ℕ) (ctxt : ℕ) (role : Role) (default : List Item) → Some names ≡ Some role → IsShort names (binding None 0 x ctxt role ++ default)

short_name : {names : Role} {inside : List Item} (rest : List Item) → AreIn (slot 0 One (AnIdent names) ∷ []) inside → IsShort names (h.Open 0 h.BindingIdent ∷ (inside ++ h.Close ∷ rest))
short_name rest (over needed free them) = absurd (false≢true (sym needed))
short_name rest (a_name {x = x} {ctxt = ctxt} {role = role} is no_more) = is_short x ctxt role rest is
short_name rest (a_node is within them) = absurd (false≢true (sym (ap is_refused is)))
short_name rest (an_export_list is source within them) = absurd (false≢true (sym (ap is_refused is)))

short_bound : {names : Role} {head : Head} {inside : List Item} (rest : List Item) → IsBinding head → MayHold (ABindingIdent names) head inside → IsShort names (h.Open 0 head ∷ (inside ++ h.Close ∷ rest))
short_bound rest is_binding held = short_name rest held.them

short_first : {names : Role} {inside : List Item} → AreIn (slot 0 One (ABindingIdent names) ∷ slot 1 Optional AnExpr ∷ []) inside → IsShort names inside
short_first (over needed free them) = absurd (false≢true (sym needed))
short_first (a_name is them) = absurd (none-some _ is)
short_first (a_node {all = all} {head = head} {rest = rest} is within them) = let held = from_holding false (Fields all) refl is within in short_bound rest (binding_of head held.takes_it) held
short_first (an_export_list {head = head} {source = source} {rest = rest} is ends within them) = let held = from_holding source Exports refl is within in short_bound rest (binding_of head held.takes_it) held

-- What fits.

fits_whole : {around : Around} {items : List Item} → Fits around items → AreWhole items
fits_whole Nothing = none_whole
fits_whole (Hole field more) = both_whole (hole_whole field) (fits_whole more)
fits_whole (Name field x ctxt role more) = both_whole (name_whole field x ctxt role) (fits_whole more)
fits_whole (Node field head fit inside more) = then_whole field head (fits_whole inside) (fits_whole more)
fits_whole (Shorthand field x ctxt role occurs default more) = then_whole field h.AssignPatProp (both_whole (binding_whole x ctxt role) (fits_whole default)) (fits_whole more)

-- what stands behind the first node
behind_first : {around : Around} {field : ℕ} {head : Head} {items inside : List Item} (rest : List Item) → AreWhole inside → Fits around (h.Open field head ∷ items) → items ≡ inside ++ h.Close ∷ rest → Fits around rest
behind_first {around = around} rest whole (Node {rest = more} field head fit inside others) e = subst (Fits around) (same_behind more rest (fits_whole inside) whole e) others
behind_first {around = around} rest whole (Shorthand {rest = more} field x ctxt role occurs default others) e = subst (Fits around) (same_behind more rest (both_whole (binding_whole x ctxt role) (fits_whole default)) whole e) others

short_fits : {around : Around} {names : Role} {inside rest : List Item} (field : ℕ) → is_occurrence names ≡ true → IsShort names inside → Fits Anywhere inside → Fits around rest → Fits around (h.Open field h.AssignPatProp ∷ (inside ++ h.Close ∷ rest))
short_fits field occurs (is_short x ctxt role default is) inner others = Shorthand field x ctxt role (same_role is occurs) (behind_first default (name_whole 0 x ctxt role) inner refl) others
  where
    same_role : {one two : Role} → Some one ≡ Some two → is_occurrence one ≡ true → is_occurrence two ≡ true
    same_role {one} {two} e occurs = sym (ap is_occurrence (same_Some one two e)) ∙ occurs

-- a shorthand property stands where names bind or refer
pattern_occurs : (sort : Sort) → takes sort h.AssignPatProp ≡ true → may_occur sort ≡ true → is_occurrence (names_in sort) ≡ true
pattern_occurs (APatternProperty names) taken may = may
pattern_occurs _ taken may = absurd (false≢true taken)

empty_inside : {inside : List Item} (anywhere : Bool) → anywhere ≡ true → AreIn [] inside → (anywhere && is_empty inside) ≡ true
empty_inside anywhere is no_more = both_true anywhere true is refl

node_fits : {around : Around} {inside rest : List Item} (sort : Sort) (head : Head) (field : ℕ) (count : Count) (more : List Slot) → may_surround around (slot field count sort ∷ more) ≡ true → may_occur sort ≡ true → MayHold sort head inside → Fits (around_in head inside) inside → Fits around rest → Fits around (h.Open field head ∷ (inside ++ h.Close ∷ rest))
node_fits sort h.AssignPatProp field count more surrounds may held inner others = short_fits field (pattern_occurs sort held.takes_it may) (short_first held.them) inner others
node_fits sort h.ImportNamedSpecifier field count more surrounds may held inner others = Node field h.ImportNamedSpecifier (specifier_fits held.them) inner others
node_fits sort h.ExportNamedSpecifier field count more surrounds may held inner others = Node field h.ExportNamedSpecifier (specifier_fits held.them) inner others
node_fits sort (h.AssignExpr op) field count more surrounds may held inner others = Node field (h.AssignExpr op) (target_fits held.them) inner others
node_fits sort (h.OptChainExpr optional) field count more surrounds may held inner others = Node field (h.OptChainExpr optional) (target_fits held.them) inner others
node_fits {around = around} sort h.MemberExpr field count more surrounds may held inner others = Node field h.MemberExpr (read_anywhere around field count sort more surrounds held.takes_it) inner others
node_fits {around = around} sort (h.MetaPropExpr p.ImportMeta) field count more surrounds may held inner others = Node field (h.MetaPropExpr p.ImportMeta) (empty_inside (is_anywhere around) (meta_anywhere around field count sort more surrounds held.takes_it) held.them) inner others
node_fits sort head field count more surrounds may held inner others = Node field head refl inner others

-- what stands in these fields
pub fits_fields : (around : Around) {slots : List Slot} {items : List Item} → may_surround around slots ≡ true → may_all_occur slots ≡ true → AreIn slots items → Fits around items
fits_fields around surrounds may no_more = Nothing
fits_fields around surrounds may (over {number = number} {count = count} {sort = sort} {more = more} needed free them) =
    fits_fields around (surrounds_more around number count sort more surrounds) (right_true (may_occur sort) (may_all_occur more) may) them
fits_fields around surrounds may (a_name {number = number} {count = count} {sort = sort} {more = more} {x = x} {ctxt = ctxt} {role = role} is them) =
    Name number x ctxt role (fits_fields around (surrounds_behind around number count sort more surrounds) (occur_behind number count sort more may) them)
fits_fields around surrounds may (a_hole {number = number} them) = Hole number (fits_fields around surrounds may them)
fits_fields around surrounds may (a_node {number = number} {count = count} {sort = sort} {more = more} {all = all} {head = head} {inside = inside} is within them) =
    let held : MayHold sort head inside = from_holding false (Fields all) refl is within in
    let same : fields (names_in sort) head ≡ Fields all = held_fields sort head (Fields all) refl is in
    node_fits sort head number count more surrounds (left_true (may_occur sort) (may_all_occur more) may) held
    (fits_fields (around_in head inside)
    (ap (λ kept. may_surround (around_in head inside) (slots_of false kept)) (sym same) ∙ surrounds_inside (names_in sort) head false inside)
    (ap (λ kept. may_all_occur (slots_of false kept)) (sym same) ∙ occur_inside sort head false (left_true (may_occur sort) (may_all_occur more) may) held.takes_it)
    within)
    (fits_fields around (surrounds_behind around number count sort more surrounds) (occur_behind number count sort more may) them)
fits_fields around surrounds may (an_export_list {number = number} {count = count} {sort = sort} {more = more} {head = head} {source = source} {inside = inside} is ends within them) =
    let held : MayHold sort head inside = from_holding source Exports refl is within in
    let same : fields (names_in sort) head ≡ Exports = held_fields sort head Exports refl is in
    node_fits sort head number count more surrounds (left_true (may_occur sort) (may_all_occur more) may) held
    (fits_fields (around_in head inside)
    (ap (λ kept. may_surround (around_in head inside) (slots_of source kept)) (sym same) ∙ surrounds_inside (names_in sort) head source inside)
    (ap (λ kept. may_all_occur (slots_of source kept)) (sym same) ∙ occur_inside sort head source (left_true (may_occur sort) (may_all_occur more) may) held.takes_it)
    within)
    (fits_fields around (surrounds_behind around number count sort more surrounds) (occur_behind number count sort more may) them)

-- the properties of an object literal
pub fits_properties : {items : List Item} → AreIn (slot 0 Many APropertyOrSpread ∷ []) items → Fits InObject items
fits_properties them = fits_fields InObject refl refl them

-- one name or one node
pub fits_place : {sort : Sort} {field : ℕ} {items : List Item} → may_occur sort ≡ true → IsIn sort field items → Fits Anywhere items
fits_place {sort = sort} may it = fits_fields Anywhere refl (both_true (may_occur sort) true may refl) (last it)

-- each number of them
pub fits_each : {sort : Sort} {field : ℕ} {items : List Item} → may_occur sort ≡ true → AreEach sort field items → Fits Anywhere items
fits_each {sort = sort} may them = fits_fields Anywhere refl (both_true (may_occur sort) true may refl) (last_each them)
