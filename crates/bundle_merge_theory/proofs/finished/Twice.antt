-- To give a tree other identifiers and then others again is to give it the last ones, where no
-- symbol is changed back.
-- To tidy a tree and to give it other identifiers may be done in either order.
use Rattle.std.proofs.Common.{◌≡◌, ◌≤◌, ℕ, ◌||◌, Bool, true, false, not, List, [], ◌∷◌, ◌++◌, Some, None, map, length, refl, ap, ap₂, sym, ◌∙◌, subst, append-nil, arith, Option}
use Rattle.std.specs.Prelude.{bytes_eq, codes, if◌then◌else◌, ⊤}
use Rattle.std.proofs.lemmas.Bool.{false≢true}
use Rattle.std.proofs.lemmas.Slice.Eq.{bytes_eq-Decides}
use Rattle.bundle_syntax.specs.declared.piece.Role.{Role}
use Rattle.bundle_syntax.specs.Item as h
use Rattle.bundle_syntax.specs.Item.{Item, Head}
use Rattle.bundle_syntax.specs.declared.piece.Role.TheVariants as r
use Rattle.bundle_rules.specs.Nodes.{Text}
use Rattle.bundle_rules.specs.Idents.{Ident, idents}
use Rattle.bundle_rules.specs.Rebuilds.{Change, plain_key, key_in_object, change_to, changes_to, rebuilt, with_idents, spells_out}
use Rattle.bundle_rules.specs.Cleared.{cleared_head, cleared, tidy_item, tidied}
use Rattle.bundle_tree_places.specs.Edits as c
use Rattle.bundle_tree_places.specs.Edits.{Around, Anywhere, InObject, InSpecifier, Edits, node, is_occurrence, around_in, is_plain, is_second_plain, in_its_place, binding, pattern_in_its_place, shorthand_in_its_place, next, renamed, ends_in_name}
use Rattle.bundle_tree_places.proofs.EditsLemmas.{rebuilt_so}
use Rattle.bundle_scope_names.proofs.promised.Idents.{changes-many as changes-length}
use Rattle.bundle_merge_theory.specs.walked.Names.{idents_among}
use Rattle.bundle_merge_theory.specs.walked.Renaming.{ident_of_change}
use Rattle.bundle_merge_theory.proofs.walked.NameLemmas.{names_of-append, node_names, idents-names, word_names, name_names, short_names}
use Rattle.bundle_merge_theory.proofs.walked.Renaming.{ends_last}
use Rattle.bundle_merge_theory.proofs.walked.Clearing.{twice as twice_tidying}
use Rattle.bundle_merge_theory.specs.finished.Twice.{IsBoth, Along, Free, anywhere, in_object, Twice, IsEditable, AreNotBack}
use Rattle.bundle_merge_theory.proofs.finished.Statements.{edited_names, longer, none-made, here, same-last, Short, none, a_hole, a_word, a_name, short}

-- ---- twice

-- Changes in turn.

record Split (first second : List Ident) (ones twos boths left later rest : List Change) : Type 0 where
  some_ones : List Change
  some_twos : List Change
  some_boths : List Change
  front : Along first ones twos boths some_ones some_twos some_boths
  back : Along second some_ones some_twos some_boths left later rest

split : (first second : List Ident) (ones twos boths left later rest : List Change) →
    Along (first ++ second) ones twos boths left later rest →
    Split first second ones twos boths left later rest
split [] second ones twos boths left later rest along = record { some_ones = ones; some_twos = twos; some_boths = boths; front = (refl, refl, refl); back = along }
split (x ∷ first) second [] twos boths left later rest along = absurd along
split (x ∷ first) second (one ∷ ones) [] boths left later rest along = absurd along
split (x ∷ first) second (one ∷ ones) (two ∷ twos) [] left later rest along = absurd along
split (x ∷ first) second (one ∷ ones) (two ∷ twos) (both ∷ boths) left later rest along =
    let it = split first second ones twos boths left later rest along.1 in
    record { some_ones = it.some_ones; some_twos = it.some_twos; some_boths = it.some_boths; front = (along.0, it.front); back = it.back }

-- the first of them
record Taken (ident : Ident) (others : List Ident) (ones twos boths left later rest : List Change) : Type 0 where
  one : Change
  two : Change
  both : Change
  some_ones : List Change
  some_twos : List Change
  some_boths : List Change
  are : (ones ≡ one ∷ some_ones) × (twos ≡ two ∷ some_twos) × (boths ≡ both ∷ some_boths)
  its : IsBoth ident one two both
  back : Along others some_ones some_twos some_boths left later rest

taken : (x : Ident) (others : List Ident) (ones twos boths left later rest : List Change) →
    Along (x ∷ others) ones twos boths left later rest →
    Taken x others ones twos boths left later rest
taken x others [] twos boths left later rest along = absurd along
taken x others (one ∷ ones) [] boths left later rest along = absurd along
taken x others (one ∷ ones) (two ∷ twos) [] left later rest along = absurd along
taken x others (one ∷ ones) (two ∷ twos) (both ∷ boths) left later rest along = record { one = one; two = two; both = both; some_ones = ones; some_twos = twos; some_boths = boths; are = (refl, refl, refl); its = along.0; back = along.1 }

-- the same for other names of the lists
from : {around : Around} {before : List Item}
    {ones twos boths others next_ones next_boths left later rest : List Change} →
    ones ≡ others → twos ≡ next_ones → boths ≡ next_boths →
    Twice around before others next_ones next_boths left later rest →
    Twice around before ones twos boths left later rest
from {around = around} {before = before} {left = left} {later = later} {rest = rest} a b d it = record {
  made = it.made;
  whole = it.whole;
  first = subst (λ l. Edits around l before it.made left) (sym a) it.first;
  second = subst (λ l. Edits around l it.made it.whole later) (sym b) it.second;
  at_once = subst (λ l. Edits around l before it.whole rest) (sym d) it.at_once;
}

-- what stays
stays : {around : Around} (before : List Item) {ones twos boths left later rest : List Change} →
    ((changes : List Change) → Edits around changes before before changes) → (names : List Ident) →
    names ≡ [] → Along names ones twos boths left later rest →
    Twice around before ones twos boths left later rest
stays before {left = left} {later = later} {rest = rest} its [] is along =
    from along.0 along.1 along.2
    (record { made = before; whole = before; first = its left; second = its later; at_once = its rest })
stays before its (x ∷ names) is along = cc

-- Names.

key_stays : (computed : Bool) (x : Text) (changes : List Change) →
    Edits Anywhere changes
    (if computed then h.Open 0 h.ComputedPropName ∷ h.Open 0 (h.Str x None) ∷ h.Close ∷ h.Close ∷ [] else plain_key x)
    (if computed then h.Open 0 h.ComputedPropName ∷ h.Open 0 (h.Str x None) ∷ h.Close ∷ h.Close ∷ [] else plain_key x)
    changes
key_stays true x changes =
    c.Inside 0 h.ComputedPropName {inside = node 0 (h.Str x None) []} refl
    (c.Inside 0 (h.Str x None) {inside = []} refl c.Nothing)
key_stays false x changes = c.Inside 0 (h.IdentName x) {inside = []} refl c.Nothing

-- both at once, by parts
abbrev at_once : Change → Change → Change
at_once one two = record { ident = two.ident; is_spelled_out = one.is_spelled_out || two.is_spelled_out }

both-is : {ident : Ident} {one two both : Change} → IsBoth ident one two both →
    both ≡ at_once one two
both-is its = λ i. record { ident = its.is i; is_spelled_out = its.spelled i }

object_name : (field : ℕ) (x : Text) (ctxt : ℕ) (role : Role) → is_occurrence role ≡ true →
    (o t : Bool) (new final : Ident) → (o ≡ false → new.0 ≡ x) → (ones twos boths : List Change) →
    Twice InObject (h.Ident field x ctxt role ∷ [])
    (record { ident = new; is_spelled_out = o } ∷ ones)
    (record { ident = final; is_spelled_out = t } ∷ twos)
    (record { ident = final; is_spelled_out = o || t } ∷ boths) ones twos boths
object_name field x ctxt role occurs true t new final keeps ones twos boths = record {
  made = node field h.KeyValueProp (key_in_object x ++ h.Ident 1 new.0 new.1 role ∷ []);
  whole = node field h.KeyValueProp (key_in_object x ++ h.Ident 1 final.0 final.1 role ∷ []);
  first = c.Name InObject field x ctxt role occurs;
  second = c.Inside field h.KeyValueProp refl (c.Joined (key_stays (bytes_eq x (codes "__proto__")) x (record { ident = final; is_spelled_out = t } ∷ twos)) (c.Name Anywhere 1 new.0 new.1 role occurs));
  at_once = c.Name InObject field x ctxt role occurs;
}
object_name field x ctxt role occurs false t new final keeps ones twos boths = record {
  made = h.Ident field new.0 new.1 role ∷ [];
  whole = in_its_place InObject (Some (record { ident = final; is_spelled_out = t })) field new.0 new.1 role;
  first = c.Name InObject field x ctxt role occurs;
  second = c.Name InObject field new.0 new.1 role occurs;
  at_once = subst (λ s. Edits InObject (record { ident = final; is_spelled_out = t } ∷ boths) (h.Ident field x ctxt role ∷ []) (in_its_place InObject (Some (record { ident = final; is_spelled_out = t })) field s new.1 role) boths) (sym (keeps refl)) (c.Name InObject field x ctxt role occurs);
}

name_exact : (around : Around) → Free around → (field : ℕ) (x : Text) (ctxt : ℕ) (role : Role) →
    is_occurrence role ≡ true → (one two : Change) →
    (one.is_spelled_out ≡ false → one.ident.0 ≡ x) → (ones twos boths : List Change) →
    Twice around (h.Ident field x ctxt role ∷ []) (one ∷ ones) (two ∷ twos)
    (at_once one two ∷ boths) ones twos boths
name_exact _ anywhere field x ctxt role occurs one two keeps ones twos boths = record {
  made = h.Ident field one.ident.0 one.ident.1 role ∷ [];
  whole = h.Ident field two.ident.0 two.ident.1 role ∷ [];
  first = c.Name Anywhere field x ctxt role occurs;
  second = c.Name Anywhere field one.ident.0 one.ident.1 role occurs;
  at_once = c.Name Anywhere field x ctxt role occurs;
}
name_exact _ in_object field x ctxt role occurs one two keeps ones twos boths =
    object_name field x ctxt role occurs one.is_spelled_out two.is_spelled_out one.ident two.ident
    keeps ones twos boths

-- from changes to lists
behind : {around : Around} {before : List Item} {ident : Ident}
    {ones twos boths left later rest : List Change}
    (it : Taken ident [] ones twos boths left later rest) →
    Twice around before (it.one ∷ it.some_ones) (it.two ∷ it.some_twos)
    (at_once it.one it.two ∷ it.some_boths) it.some_ones it.some_twos it.some_boths →
    Twice around before ones twos boths left later rest
behind {around = around} {before = before} it all =
    from it.are.0 it.are.1 (it.are.2 ∙ ap (λ both. both ∷ it.some_boths) (both-is it.its)) (record {
      made = all.made;
      whole = all.whole;
      first = subst (λ l. Edits around (it.one ∷ it.some_ones) before all.made l) it.back.0 all.first;
      second = subst (λ l. Edits around (it.two ∷ it.some_twos) all.made all.whole l) it.back.1 all.second;
      at_once = subst (λ l. Edits around (at_once it.one it.two ∷ it.some_boths) before all.whole l) it.back.2 all.at_once;
    })

-- Specifiers of one name.

data IsSpecifier : Head → Type 0 where
  imports : IsSpecifier h.ImportNamedSpecifier
  exports : IsSpecifier h.ExportNamedSpecifier

lone_around : {head : Head} → IsSpecifier head → (x : Item) → around_in head (x ∷ []) ≡ InSpecifier
lone_around imports x = refl
lone_around exports x = refl

lone_plain : {head : Head} → IsSpecifier head → (x : Item) → is_plain head (x ∷ []) ≡ true
lone_plain imports x = refl
lone_plain exports x = refl

two_around : {head : Head} → IsSpecifier head → (x y : Item) →
    around_in head (x ∷ y ∷ []) ≡ Anywhere
two_around imports x y = refl
two_around exports x y = refl

two_plain : {head : Head} → IsSpecifier head →
    (field : ℕ) (x : Text) (ctxt : ℕ) (role : Role) (y : Text) →
    is_plain head (h.Ident field x ctxt role ∷ h.Ident 1 y 0 r.Word ∷ []) ≡ true
two_plain imports field x ctxt role y = refl
two_plain exports field x ctxt role y = refl

within : {around : Around} {head : Head} {x : Item} {changes rest : List Change} {made : List Item}
    (field : ℕ) →
    IsSpecifier head → Edits InSpecifier changes (x ∷ []) made rest →
    Edits around changes (node field head (x ∷ [])) (node field head made) rest
within {head = head} {x = x} {changes = changes} {rest = rest} {made = made} field is its =
    c.Inside field head (lone_plain is x)
    (subst (λ a. Edits a changes (x ∷ []) made rest) (sym (lone_around is x)) its)

lone_name : {around : Around} (f : ℕ) (head : Head) → IsSpecifier head →
    (field : ℕ) (x : Text) (ctxt : ℕ) (role : Role) → is_occurrence role ≡ true →
    (o t : Bool) (new final : Ident) → (o ≡ false → new.0 ≡ x) → (ones twos boths : List Change) →
    Twice around (node f head (h.Ident field x ctxt role ∷ []))
    (record { ident = new; is_spelled_out = o } ∷ ones)
    (record { ident = final; is_spelled_out = t } ∷ twos)
    (record { ident = final; is_spelled_out = o || t } ∷ boths) ones twos boths
lone_name f head is field x ctxt role occurs true t new final keeps ones twos boths = record {
  made = node f head (h.Ident field new.0 new.1 role ∷ h.Ident 1 x 0 r.Word ∷ []);
  whole = node f head (h.Ident field final.0 final.1 role ∷ h.Ident 1 x 0 r.Word ∷ []);
  first = within f is (c.Name InSpecifier field x ctxt role occurs);
  second = c.Inside f head (two_plain is field new.0 new.1 role x) (subst (λ a. Edits a (record { ident = final; is_spelled_out = t } ∷ twos) (h.Ident field new.0 new.1 role ∷ h.Ident 1 x 0 r.Word ∷ []) (h.Ident field final.0 final.1 role ∷ h.Ident 1 x 0 r.Word ∷ []) twos) (sym (two_around is (h.Ident field new.0 new.1 role) (h.Ident 1 x 0 r.Word))) (c.Joined (c.Name Anywhere field new.0 new.1 role occurs) (c.Word 1 x 0 r.Word refl)));
  at_once = within f is (c.Name InSpecifier field x ctxt role occurs);
}
lone_name f head is field x ctxt role occurs false t new final keeps ones twos boths = record {
  made = node f head (h.Ident field new.0 new.1 role ∷ []);
  whole = node f head (in_its_place InSpecifier (Some (record { ident = final; is_spelled_out = t })) field new.0 new.1 role);
  first = within f is (c.Name InSpecifier field x ctxt role occurs);
  second = within f is (c.Name InSpecifier field new.0 new.1 role occurs);
  at_once = within f is (subst (λ s. Edits InSpecifier (record { ident = final; is_spelled_out = t } ∷ boths) (h.Ident field x ctxt role ∷ []) (in_its_place InSpecifier (Some (record { ident = final; is_spelled_out = t })) field s new.1 role) boths) (sym (keeps refl)) (c.Name InSpecifier field x ctxt role occurs));
}

lone_twice : {around : Around} (f : ℕ) (head : Head) → IsSpecifier head → (inside : List Item) →
    length inside ≡ 1 → Short inside → (ones twos boths left later rest : List Change) →
    Along (idents_among inside) ones twos boths left later rest →
    Twice around (node f head inside) ones twos boths left later rest
lone_twice f head is _ one none ones twos boths left later rest along = absurd (omega (arith, one))
lone_twice f head is _ one (a_hole field) ones twos boths left later rest along =
    stays (node f head (h.Hole field ∷ [])) (λ changes. within f is (c.Hole field)) [] refl along
lone_twice f head is _ one (a_word field x ctxt role plain) ones twos boths left later rest along =
    stays (node f head (h.Ident field x ctxt role ∷ []))
    (λ changes. within f is (c.Word field x ctxt role plain))
    (idents_among (h.Ident field x ctxt role ∷ [])) (word_names field x ctxt role plain) along
lone_twice f head is _ one (a_name field x ctxt role occurs) ones twos boths left later rest along =
    let it = taken (x, ctxt) [] ones twos boths left later rest (subst (λ l. Along l ones twos boths left later rest) (name_names field x ctxt role [] occurs) along) in
    behind it (lone_name f head is field x ctxt role occurs it.one.is_spelled_out it.two.is_spelled_out it.one.ident it.two.ident it.its.keeps it.some_ones it.some_twos it.some_boths)

-- Nodes.

-- what is around the children of a node: a lone name in a specifier, or anything else
data View (head : Head) (inside : List Item) : Type 0 where
  free : Free (around_in head inside) → View head inside
  lone : IsSpecifier head → length inside ≡ 1 → View head inside

view : (head : Head) (inside : List Item) → View head inside
view h.ObjectLit inside = free in_object
view h.ImportNamedSpecifier [] = free anywhere
view h.ImportNamedSpecifier (x ∷ []) = lone imports refl
view h.ImportNamedSpecifier (x ∷ y ∷ rest) = free anywhere
view h.ExportNamedSpecifier [] = free anywhere
view h.ExportNamedSpecifier (x ∷ []) = lone exports refl
view h.ExportNamedSpecifier (x ∷ y ∷ rest) = free anywhere
view _ inside = free anywhere

-- a node stays as it is
second_stays : {changes rest : List Change} (inside made : List Item) →
    Edits Anywhere changes inside made rest → (2 ≤ length inside) → is_second_plain inside ≡ true →
    is_second_plain made ≡ true
second_stays [] made edits two is = absurd (omega (arith, two))
second_stays (x ∷ []) made edits two is = absurd (omega (arith, two))
second_stays (x ∷ y ∷ inside) [] edits two is = refl
second_stays (x ∷ y ∷ inside) (a ∷ []) edits two is = refl
second_stays (x ∷ y ∷ inside) (a ∷ b ∷ made) edits two is =
    ap not
    (ends_last false a (b ∷ made) ∙ same-last edits here false ∙ sym (ends_last false x (y ∷ inside)))
    ∙ is

record Stays (head : Head) (inside made : List Item) : Type 0 where
  around : around_in head made ≡ around_in head inside
  plain : is_plain head made ≡ true

specifier_stays : {head : Head} → IsSpecifier head →
    {changes rest : List Change} (inside made : List Item) →
    Edits Anywhere changes inside made rest → is_second_plain inside ≡ true →
    (length inside ≡ 1 → ⊥) → Stays head inside made
specifier_stays imports [] [] edits plain more = record { around = refl; plain = refl }
specifier_stays exports [] [] edits plain more = record { around = refl; plain = refl }
specifier_stays is [] (a ∷ made) edits plain more = let l = none-made edits (omega arith) in absurd (omega (arith, l))
specifier_stays is (x ∷ []) made edits plain more = absurd (more refl)
specifier_stays is (x ∷ y ∷ inside) [] edits plain more = let l = longer edits in absurd (omega (arith, l))
specifier_stays is (x ∷ y ∷ inside) (a ∷ []) edits plain more = let l = longer edits in absurd (omega (arith, l))
specifier_stays imports (x ∷ y ∷ inside) (a ∷ b ∷ made) edits plain more = record { around = refl; plain = second_stays (x ∷ y ∷ inside) (a ∷ b ∷ made) edits (omega arith) plain }
specifier_stays exports (x ∷ y ∷ inside) (a ∷ b ∷ made) edits plain more = record { around = refl; plain = second_stays (x ∷ y ∷ inside) (a ∷ b ∷ made) edits (omega arith) plain }

not_free-is : {around : Around} → Free around → around ≡ InSpecifier → ⊥
not_free-is anywhere e = absurd cc
not_free-is in_object e = absurd cc

not_free : Free InSpecifier → ⊥
not_free its = not_free-is its refl

node_stays : (head : Head) (inside made : List Item) {changes rest : List Change} →
    Edits (around_in head inside) changes inside made rest → Free (around_in head inside) →
    is_plain head inside ≡ true → Stays head inside made
node_stays h.AssignPatProp inside made edits is plain = cc
node_stays h.ImportNamedSpecifier [] made edits is plain =
    specifier_stays imports [] made edits plain (λ e. absurd (omega (arith, e)))
node_stays h.ImportNamedSpecifier (x ∷ []) made edits is plain = absurd (not_free is)
node_stays h.ImportNamedSpecifier (x ∷ y ∷ inside) made edits is plain =
    specifier_stays imports (x ∷ y ∷ inside) made edits plain (λ e. absurd (omega (arith, e)))
node_stays h.ExportNamedSpecifier [] made edits is plain =
    specifier_stays exports [] made edits plain (λ e. absurd (omega (arith, e)))
node_stays h.ExportNamedSpecifier (x ∷ []) made edits is plain = absurd (not_free is)
node_stays h.ExportNamedSpecifier (x ∷ y ∷ inside) made edits is plain =
    specifier_stays exports (x ∷ y ∷ inside) made edits plain (λ e. absurd (omega (arith, e)))
node_stays h.ObjectLit inside made edits is plain = record { around = refl; plain = refl }
node_stays _ inside made edits is plain = record { around = refl; plain = refl }

-- Shorthands of patterns.

pattern_same : (change : Change) (x y : Text) (k l : ℕ) (role : Role) (default : List Item) →
    pattern_in_its_place (Some change) x k role default ≡
    pattern_in_its_place (Some change) y l role default
pattern_same change x y k l role [] = refl
pattern_same change x y k l role (z ∷ zs) = refl

short_same : (t : Bool) (final : Ident) (field : ℕ) (x y : Text) (k l : ℕ) (role : Role)
    (default : List Item) →
    x ≡ y →
    shorthand_in_its_place (Some (record { ident = final; is_spelled_out = t })) field x k role
    default ≡
    shorthand_in_its_place (Some (record { ident = final; is_spelled_out = t })) field y l role
    default
short_same true final field x y k l role default same =
    ap₂ (λ (z : Text) (pattern : List Item). node field h.KeyValuePatProp (plain_key z ++ pattern))
    same (pattern_same (record { ident = final; is_spelled_out = true }) x y k l role default)
short_same false final field x y k l role default same = refl

pattern_twice : (new final : Change) (x : Text) (ctxt : ℕ) (role : Role) →
    is_occurrence role ≡ true → (made whole : List Item) {twos later : List Change} →
    Edits Anywhere twos made whole later →
    Edits Anywhere (final ∷ twos) (pattern_in_its_place (Some new) x ctxt role made)
    (pattern_in_its_place (Some final) x ctxt role whole) later
pattern_twice new final x ctxt role occurs [] [] {twos = twos} {later = later} edits =
    nothing twos later refl edits
  where
    nothing : (l m : List Change) → l ≡ l → Edits Anywhere l [] [] m →
        Edits Anywhere (final ∷ l) (binding (Some new) 1 x ctxt role)
        (binding (Some final) 1 x ctxt role) m
    nothing l m e its =
        c.Inside 1 h.BindingIdent refl
        (c.Joined {second = []} {made_second = []} (c.Name Anywhere 0 new.ident.0 new.ident.1 role occurs) its)
pattern_twice new final x ctxt role occurs [] (z ∷ whole) edits = let l = none-made edits (omega arith) in absurd (omega (arith, l))
pattern_twice new final x ctxt role occurs (y ∷ made) [] edits = let l = longer edits in absurd (omega (arith, l))
pattern_twice new final x ctxt role occurs (y ∷ made) (z ∷ whole) edits =
    c.Inside 1 h.AssignPat refl
    (c.Joined (c.Inside 0 h.BindingIdent refl (c.Name Anywhere 0 new.ident.0 new.ident.1 role occurs)) edits)

short_exact : {around : Around} (field : ℕ) (x : Text) (ctxt : ℕ) (role : Role) →
    is_occurrence role ≡ true → (default : List Item) (o t : Bool) (new final : Ident) →
    (o ≡ false → new.0 ≡ x) → {ones twos boths left later rest : List Change} →
    Twice Anywhere default ones twos boths left later rest →
    Twice around (node field h.AssignPatProp (binding None 0 x ctxt role ++ default))
    (record { ident = new; is_spelled_out = o } ∷ ones)
    (record { ident = final; is_spelled_out = t } ∷ twos)
    (record { ident = final; is_spelled_out = o || t } ∷ boths) left later rest
short_exact field x ctxt role occurs default true t new final keeps {twos = twos} {later = later} it = record {
  made = node field h.KeyValuePatProp (plain_key x ++ pattern_in_its_place (Some (record { ident = new; is_spelled_out = true })) x ctxt role it.made);
  whole = node field h.KeyValuePatProp (plain_key x ++ pattern_in_its_place (Some (record { ident = final; is_spelled_out = true })) x ctxt role it.whole);
  first = c.Shorthand field x ctxt role occurs it.first;
  second = c.Inside field h.KeyValuePatProp refl (c.Joined (key_stays false x (record { ident = final; is_spelled_out = t } ∷ twos)) (subst (λ l. Edits Anywhere (record { ident = final; is_spelled_out = t } ∷ twos) (pattern_in_its_place (Some (record { ident = new; is_spelled_out = true })) x ctxt role it.made) l later) (final_same it.whole) (pattern_twice (record { ident = new; is_spelled_out = true }) (record { ident = final; is_spelled_out = t }) x ctxt role occurs it.made it.whole it.second)));
  at_once = c.Shorthand field x ctxt role occurs it.at_once;
}
  where
    final_same : (l : List Item) →
        pattern_in_its_place (Some (record { ident = final; is_spelled_out = t })) x ctxt role l ≡
        pattern_in_its_place (Some (record { ident = final; is_spelled_out = true })) x ctxt
        role l
    final_same [] = refl
    final_same (y ∷ ys) = refl
short_exact {around = around} field x ctxt role occurs default false t new final keeps {boths = boths} {rest = rest} it = record {
  made = node field h.AssignPatProp (binding (Some (record { ident = new; is_spelled_out = false })) 0 x ctxt role ++ it.made);
  whole = shorthand_in_its_place (Some (record { ident = final; is_spelled_out = t })) field new.0 new.1 role it.whole;
  first = c.Shorthand field x ctxt role occurs it.first;
  second = c.Shorthand field new.0 new.1 role occurs it.second;
  at_once = subst (λ l. Edits around (record { ident = final; is_spelled_out = t } ∷ boths) (node field h.AssignPatProp (binding None 0 x ctxt role ++ default)) l rest) (short_same t final field x new.0 ctxt new.1 role it.whole (sym (keeps refl))) (c.Shorthand field x ctxt role occurs it.at_once);
}

-- what becomes of a part by one change after the other is what becomes of it by both at once

pub twice : {around : Around} {changes others : List Change} {before after : List Item} →
    Edits around changes before after others → Free around →
    (ones twos boths left later rest : List Change) →
    Along (idents_among before) ones twos boths left later rest →
    Twice around before ones twos boths left later rest
twice c.Nothing is ones twos boths left later rest along =
    stays [] (λ changes. c.Nothing) [] refl along
twice (c.Joined {first = first} {second = second} d e) is ones twos boths left later rest along =
    let parts = split (idents_among first) (idents_among second) ones twos boths left later rest (subst (λ l. Along l ones twos boths left later rest) (names_of-append first second) along) in
    let one = twice d is ones twos boths parts.some_ones parts.some_twos parts.some_boths parts.front in
    let two = twice e is parts.some_ones parts.some_twos parts.some_boths left later rest parts.back in
    record { made = one.made ++ two.made; whole = one.whole ++ two.whole; first = c.Joined one.first two.first; second = c.Joined one.second two.second; at_once = c.Joined one.at_once two.at_once }
twice (c.Hole field) is ones twos boths left later rest along =
    stays (h.Hole field ∷ []) (λ changes. c.Hole field) [] refl along
twice (c.Word field x ctxt role plain) is ones twos boths left later rest along =
    stays (h.Ident field x ctxt role ∷ []) (λ changes. c.Word field x ctxt role plain)
    (idents_among (h.Ident field x ctxt role ∷ [])) (word_names field x ctxt role plain) along
twice (c.Name around field x ctxt role occurs) is ones twos boths left later rest along =
    let it = taken (x, ctxt) [] ones twos boths left later rest (subst (λ l. Along l ones twos boths left later rest) (name_names field x ctxt role [] occurs) along) in
    behind it (name_exact around is field x ctxt role occurs it.one it.two it.its.keeps it.some_ones it.some_twos it.some_boths)
twice {around = around} (c.Inside field head {inside = inside} plain one) is ones twos boths left later rest along =
    by_view (view head inside) (λ its. twice one its ones twos boths left later rest within_names)
  where
    within_names : Along (idents_among inside) ones twos boths left later rest
    within_names =
        subst (λ l. Along l ones twos boths left later rest) (node_names field head inside) along

    by_view : View head inside →
        (Free (around_in head inside) → Twice (around_in head inside) inside ones twos boths left later rest)
        →
        Twice around (node field head inside) ones twos boths left later rest
    by_view (free its) ih =
        let it = ih its in
        let kept = node_stays head inside it.made it.first its plain in
        record {
          made = node field head it.made;
          whole = node field head it.whole;
          first = c.Inside field head plain it.first;
          second = c.Inside field head kept.plain (subst (λ a. Edits a twos it.made it.whole later) (sym kept.around) it.second);
          at_once = c.Inside field head plain it.at_once;
        }
    by_view (lone its size) ih =
        lone_twice field head its inside size (short one (let e = size in omega (arith, e))) ones
        twos boths left later rest within_names
twice {around = around} (c.Shorthand field x ctxt role {default = default} occurs one) is ones twos boths left later rest along =
    let it = taken (x, ctxt) (idents_among default) ones twos boths left later rest (subst (λ l. Along l ones twos boths left later rest) (short_names field x ctxt role default occurs) along) in
    let inner = twice one anywhere it.some_ones it.some_twos it.some_boths left later rest it.back in
    from it.are.0 it.are.1 (it.are.2 ∙ ap (λ both. both ∷ it.some_boths) (both-is it.its))
    (short_exact field x ctxt role occurs default it.one.is_spelled_out it.two.is_spelled_out it.one.ident it.two.ident it.its.keeps inner)

-- With identifiers.

-- a symbol that a first and a second change replace
changes-both : (old new final : Ident) →
    (bytes_eq old.0 final.0 ≡ true → bytes_eq old.0 new.0 ≡ true) →
    IsBoth old (change_to old new) (change_to new final) (change_to old final)
changes-both old new final back = record {
  is = refl;
  spelled = by_first (bytes_eq old.0 new.0) refl (bytes_eq old.0 final.0) refl;
  keeps = λ same. sym ((bytes_eq-Decides old.0 new.0).0 (not-false (bytes_eq old.0 new.0) same));
}
  where
    not-false : (b : Bool) → not b ≡ false → b ≡ true
    not-false true e = refl
    not-false false e = absurd (false≢true (sym e))

    by_first : (a : Bool) → bytes_eq old.0 new.0 ≡ a → (b : Bool) → bytes_eq old.0 final.0 ≡ b →
        not (bytes_eq old.0 final.0) ≡ (not (bytes_eq old.0 new.0) || not (bytes_eq new.0 final.0))
    by_first true a b b_is =
        ap (λ (x : Text). not (bytes_eq x final.0)) ((bytes_eq-Decides old.0 new.0).0 a)
        ∙ ap (λ z. not z || not (bytes_eq new.0 final.0)) (sym a)
    by_first false a false b_is =
        ap not b_is ∙ ap (λ z. not z || not (bytes_eq new.0 final.0)) (sym a)
    by_first false a true b_is = absurd (false≢true (sym a ∙ back b_is))

along-changes : (olds news last : List Ident) → AreNotBack olds news last →
    Along olds (changes_to olds news) (changes_to news last) (changes_to olds last) [] [] []
along-changes [] [] [] back = (refl, refl, refl)
along-changes [] [] (x ∷ last) back = absurd back
along-changes [] (x ∷ news) last back = absurd back
along-changes (x ∷ olds) [] last back = absurd back
along-changes (x ∷ olds) (y ∷ news) [] back = absurd back
along-changes (x ∷ olds) (y ∷ news) (z ∷ last) back =
    (changes-both x y z back.0, along-changes olds news last back.1)

changed-idents : (olds news : List Ident) → length news ≡ length olds →
    map ident_of_change (changes_to olds news) ≡ news
changed-idents [] [] same = refl
changed-idents [] (x ∷ news) same = absurd (omega (arith, same))
changed-idents (x ∷ olds) [] same = absurd (omega (arith, same))
changed-idents (x ∷ olds) (y ∷ news) same =
    ap (λ l. y ∷ l) (changed-idents olds news (omega (arith, same)))

not_back-lengths : (olds news last : List Ident) → AreNotBack olds news last →
    (length news ≡ length olds) × (length last ≡ length olds)
not_back-lengths [] [] [] back = (refl, refl)
not_back-lengths [] [] (x ∷ last) back = absurd back
not_back-lengths [] (x ∷ news) last back = absurd back
not_back-lengths (x ∷ olds) [] last back = absurd back
not_back-lengths (x ∷ olds) (y ∷ news) [] back = absurd back
not_back-lengths (x ∷ olds) (y ∷ news) (z ∷ last) back = let both = not_back-lengths olds news last back.1 in let a = both.0 in let b = both.1 in (omega (arith, a), omega (arith, b))

-- what is made has the new identifiers
idents-made : (tree made : List Item) (news : List Ident) {left : List Change} →
    length news ≡ length (idents tree) → left ≡ [] →
    Edits Anywhere (changes_to (idents tree) news) tree made left → idents made ≡ news
idents-made tree made news {left = left} same ends edits =
    let a = changes-length (idents tree) news same in
    let b = ap (λ (l : List Ident). length l) (idents-names tree) in
    let named = edited_names edits (omega (arith, a, b)) in
    idents-names made ∙ sym (append-nil (idents_among made)) ∙ sym (ap (λ l. idents_among made ++ map ident_of_change l) ends) ∙ sym named.names ∙ changed-idents (idents tree) news same

-- once is twice
pub record Again (tree : List Item) (news last : List Ident) : Type 0 where
  pub idents_are : idents (with_idents tree news) ≡ news
  pub last_are : idents (with_idents tree last) ≡ last
  pub once : with_idents (with_idents tree news) last ≡ with_idents tree last

pub once-is-twice : (tree : List Item) → IsEditable tree → (news last : List Ident) →
    AreNotBack (idents tree) news last → Again tree news last
once-is-twice tree editable news last back =
    let along : Along (idents_among tree) (changes_to (idents tree) news) (changes_to news last) (changes_to (idents tree) last) [] [] [] = subst (λ l. Along l (changes_to (idents tree) news) (changes_to news last) (changes_to (idents tree) last) [] [] []) (idents-names tree) (along-changes (idents tree) news last back) in
    let it = twice editable.edits anywhere (changes_to (idents tree) news) (changes_to news last) (changes_to (idents tree) last) [] [] [] along in
    let sizes = not_back-lengths (idents tree) news last back in
    let made_is : it.made ≡ with_idents tree news = rebuilt_so (record { rest = []; by = it.first }) in
    let whole_is : it.whole ≡ with_idents tree last = rebuilt_so (record { rest = []; by = it.at_once }) in
    let made_idents : idents it.made ≡ news = idents-made tree it.made news sizes.0 refl it.first in
    let whole_again : it.whole ≡ rebuilt it.made (changes_to news last) = rebuilt_so (record { rest = []; by = it.second }) in
    record {
      idents_are = ap idents (sym made_is) ∙ made_idents;
      last_are = ap idents (sym whole_is) ∙ idents-made tree it.whole last sizes.1 refl it.at_once;
      once = ap (λ t. with_idents t last) (sym made_is) ∙ ap (λ l. rebuilt it.made (changes_to l last)) made_idents ∙ sym whole_again ∙ whole_is;
    }

-- the tree with these identifiers, by its nodes
pub record WithIdents (tree : List Item) (news : List Ident) : Type 0 where
  pub made : List Item
  pub edits : Edits Anywhere (changes_to (idents tree) news) tree made []
  pub is : made ≡ with_idents tree news
  pub editable : IsEditable made

back-same : (olds news : List Ident) → length news ≡ length olds → AreNotBack olds news news
back-same [] [] same = tt
back-same [] (x ∷ news) same = absurd (omega (arith, same))
back-same (x ∷ olds) [] same = absurd (omega (arith, same))
back-same (x ∷ olds) (y ∷ news) same = ((λ is. is), back-same olds news (omega (arith, same)))

pub edits-with : (tree : List Item) → IsEditable tree → (news : List Ident) →
    length news ≡ length (idents tree) → WithIdents tree news
edits-with tree editable news same =
    let back = back-same (idents tree) news same in
    let along : Along (idents_among tree) (changes_to (idents tree) news) (changes_to news news) (changes_to (idents tree) news) [] [] [] = subst (λ l. Along l (changes_to (idents tree) news) (changes_to news news) (changes_to (idents tree) news) [] [] []) (idents-names tree) (along-changes (idents tree) news news back) in
    let it = twice editable.edits anywhere (changes_to (idents tree) news) (changes_to news news) (changes_to (idents tree) news) [] [] [] along in
    record { made = it.made; edits = it.first; is = rebuilt_so (record { rest = []; by = it.first }); editable = record { changes = changes_to news news; after = it.whole; left = []; edits = it.second } }

pub with-idents-are : (tree : List Item) → IsEditable tree → (news : List Ident) →
    length news ≡ length (idents tree) → idents (with_idents tree news) ≡ news
with-idents-are tree editable news same = let it = edits-with tree editable news same in ap idents (sym it.is) ∙ idents-made tree it.made news same refl it.edits

-- ---- tidying
item-twice : (x : Item) → tidy_item (tidy_item x) ≡ tidy_item x
item-twice (h.Open field head) = ap (h.Open field) (twice_tidying head)
item-twice (h.Ident field x c r.Word) = refl
item-twice (h.Ident field x c r.Binding) = refl
item-twice (h.Ident field x c r.Reference) = refl
item-twice (h.Hole field) = refl
item-twice h.Close = refl

pub tidied-twice : (l : List Item) → tidied (tidied l) ≡ tidied l
tidied-twice [] = refl
tidied-twice (x ∷ l) =
    ap₂ (λ (y : Item) (rest : List Item). y ∷ rest) (item-twice x) (tidied-twice l)

pub tidied-append : (xs ys : List Item) → tidied (xs ++ ys) ≡ tidied xs ++ tidied ys
tidied-append [] ys = refl
tidied-append (x ∷ xs) ys = ap (λ rest. tidy_item x ∷ rest) (tidied-append xs ys)

pub tidied-node : (field : ℕ) (head : Head) (inside : List Item) →
    tidied (node field head inside) ≡ node field (cleared_head head) (tidied inside)
tidied-node field head inside =
    ap (λ rest. h.Open field (cleared_head head) ∷ rest) (tidied-append inside (h.Close ∷ []))

-- Names.

pub tidied-name : (field : ℕ) (x : Text) (ctxt : ℕ) (role : Role) → is_occurrence role ≡ true →
    tidy_item (h.Ident field x ctxt role) ≡ h.Ident field x ctxt role
tidied-name field x ctxt r.Word occurs = cc
tidied-name field x ctxt r.Binding occurs = refl
tidied-name field x ctxt r.Reference occurs = refl

pub tidied-renamed : (change : Option Change) (field : ℕ) (x : Text) (ctxt : ℕ) (role : Role) →
    is_occurrence role ≡ true →
    tidy_item (renamed change field x ctxt role) ≡ renamed change field x ctxt role
tidied-renamed None field x ctxt role occurs = tidied-name field x ctxt role occurs
tidied-renamed (Some change) field x ctxt role occurs =
    tidied-name field change.ident.0 change.ident.1 role occurs

tidied-pair : (computed : Bool) (change : Option Change) (field : ℕ) (x : Text) (ctxt : ℕ)
    (role : Role) →
    is_occurrence role ≡ true →
    tidied
    (node field h.KeyValueProp ((if computed then h.Open 0 h.ComputedPropName ∷ h.Open 0 (h.Str x None) ∷ h.Close ∷ h.Close ∷ [] else plain_key x) ++ renamed change 1 x ctxt role ∷ []))
    ≡
    node field h.KeyValueProp
    ((if computed then h.Open 0 h.ComputedPropName ∷ h.Open 0 (h.Str x None) ∷ h.Close ∷ h.Close ∷ [] else plain_key x) ++ renamed change 1 x ctxt role ∷ [])
tidied-pair true change field x ctxt role occurs =
    ap
    (λ y. h.Open field h.KeyValueProp ∷ h.Open 0 h.ComputedPropName ∷ h.Open 0 (h.Str x None) ∷ h.Close ∷ h.Close ∷ y ∷ h.Close ∷ [])
    (tidied-renamed change 1 x ctxt role occurs)
tidied-pair false change field x ctxt role occurs =
    ap (λ y. h.Open field h.KeyValueProp ∷ h.Open 0 (h.IdentName x) ∷ h.Close ∷ y ∷ h.Close ∷ [])
    (tidied-renamed change 1 x ctxt role occurs)

tidied-place : (around : Around) (change : Option Change) (field : ℕ) (x : Text) (ctxt : ℕ)
    (role : Role) →
    is_occurrence role ≡ true →
    tidied (in_its_place around change field x ctxt role) ≡
    in_its_place around change field x ctxt role
tidied-place Anywhere change field x ctxt role occurs =
    ap (λ y. y ∷ []) (tidied-renamed change field x ctxt role occurs)
tidied-place InObject change field x ctxt role occurs = by_spelled (spells_out change)
  where
    by_spelled : (b : Bool) →
        tidied
        (if b then node field h.KeyValueProp (key_in_object x ++ renamed change 1 x ctxt role ∷ []) else renamed change field x ctxt role ∷ [])
        ≡
        (if b then node field h.KeyValueProp (key_in_object x ++ renamed change 1 x ctxt role ∷ []) else renamed change field x ctxt role ∷ [])
    by_spelled true = tidied-pair (bytes_eq x (codes "__proto__")) change field x ctxt role occurs
    by_spelled false = ap (λ y. y ∷ []) (tidied-renamed change field x ctxt role occurs)
tidied-place InSpecifier change field x ctxt role occurs = by_spelled (spells_out change)
  where
    by_spelled : (b : Bool) →
        tidied
        (if b then renamed change field x ctxt role ∷ h.Ident 1 x 0 r.Word ∷ [] else renamed change field x ctxt role ∷ [])
        ≡
        (if b then renamed change field x ctxt role ∷ h.Ident 1 x 0 r.Word ∷ [] else renamed change field x ctxt role ∷ [])
    by_spelled true =
        ap (λ y. y ∷ h.Ident 1 x 0 r.Word ∷ []) (tidied-renamed change field x ctxt role occurs)
    by_spelled false = ap (λ y. y ∷ []) (tidied-renamed change field x ctxt role occurs)

tidied-binding : (change : Option Change) (field : ℕ) (x : Text) (ctxt : ℕ) (role : Role) →
    is_occurrence role ≡ true →
    tidied (binding change field x ctxt role) ≡ binding change field x ctxt role
tidied-binding change field x ctxt role occurs =
    ap (λ y. h.Open field h.BindingIdent ∷ y ∷ h.Close ∷ [])
    (tidied-renamed change 0 x ctxt role occurs)

tidied-pattern : (change : Option Change) (x : Text) (ctxt : ℕ) (role : Role) (default : List Item)
    →
    is_occurrence role ≡ true →
    tidied (pattern_in_its_place change x ctxt role default) ≡
    pattern_in_its_place change x ctxt role (tidied default)
tidied-pattern change x ctxt role [] occurs = tidied-binding change 1 x ctxt role occurs
tidied-pattern change x ctxt role (y ∷ ys) occurs =
    tidied-node 1 h.AssignPat (binding change 0 x ctxt role ++ y ∷ ys)
    ∙ ap (node 1 h.AssignPat) (tidied-append (binding change 0 x ctxt role) (y ∷ ys) ∙ ap (λ l. l ++ tidied (y ∷ ys)) (tidied-binding change 0 x ctxt role occurs))

tidied-short : (change : Option Change) (field : ℕ) (x : Text) (ctxt : ℕ) (role : Role)
    (default : List Item) →
    is_occurrence role ≡ true →
    tidied (shorthand_in_its_place change field x ctxt role default) ≡
    shorthand_in_its_place change field x ctxt role (tidied default)
tidied-short change field x ctxt role default occurs = by_spelled (spells_out change)
  where
    by_spelled : (b : Bool) →
        tidied
        (if b then node field h.KeyValuePatProp (plain_key x ++ pattern_in_its_place change x ctxt role default) else node field h.AssignPatProp (binding change 0 x ctxt role ++ default))
        ≡
        (if b then node field h.KeyValuePatProp (plain_key x ++ pattern_in_its_place change x ctxt role (tidied default)) else node field h.AssignPatProp (binding change 0 x ctxt role ++ tidied default))
    by_spelled true =
        tidied-node field h.KeyValuePatProp
        (plain_key x ++ pattern_in_its_place change x ctxt role default)
        ∙ ap (λ l. node field h.KeyValuePatProp (plain_key x ++ l))
        (tidied-pattern change x ctxt role default occurs)
    by_spelled false =
        tidied-node field h.AssignPatProp (binding change 0 x ctxt role ++ default)
        ∙ ap (node field h.AssignPatProp)
        (tidied-append (binding change 0 x ctxt role) default ∙ ap (λ l. l ++ tidied default) (tidied-binding change 0 x ctxt role occurs))

-- Nodes.

tidied-ends : (l : List Item) → ends_in_name (tidied l) ≡ ends_in_name l
tidied-ends [] = refl
tidied-ends (h.Open field head ∷ []) = refl
tidied-ends (h.Ident field x ctxt r.Word ∷ []) = refl
tidied-ends (h.Ident field x ctxt r.Binding ∷ []) = refl
tidied-ends (h.Ident field x ctxt r.Reference ∷ []) = refl
tidied-ends (h.Hole field ∷ []) = refl
tidied-ends (h.Close ∷ []) = refl
tidied-ends (x ∷ y ∷ rest) =
    cons (tidy_item x) (tidy_item y) (tidied rest) ∙ tidied-ends (y ∷ rest) ∙ sym (cons x y rest)
  where
    cons : (x y : Item) (rest : List Item) → ends_in_name (x ∷ y ∷ rest) ≡ ends_in_name (y ∷ rest)
    cons (h.Open field head) y rest = refl
    cons (h.Ident field symbol ctxt role) y rest = refl
    cons (h.Hole field) y rest = refl
    cons h.Close y rest = refl

tidied-around : (head : Head) (inside : List Item) →
    around_in (cleared_head head) (tidied inside) ≡ around_in head inside
tidied-around h.ObjectLit inside = refl
tidied-around h.ImportNamedSpecifier [] = refl
tidied-around h.ImportNamedSpecifier (x ∷ []) = refl
tidied-around h.ImportNamedSpecifier (x ∷ y ∷ rest) = refl
tidied-around h.ExportNamedSpecifier [] = refl
tidied-around h.ExportNamedSpecifier (x ∷ []) = refl
tidied-around h.ExportNamedSpecifier (x ∷ y ∷ rest) = refl
tidied-around (h.ImportDecl meta) inside = refl
tidied-around (h.NamedExport meta) inside = refl
tidied-around (h.ExportAll meta) inside = refl
tidied-around (h.VarDecl kind meta) inside = refl
tidied-around _ inside = refl

tidied-plain : (head : Head) (inside : List Item) →
    is_plain (cleared_head head) (tidied inside) ≡ is_plain head inside
tidied-plain h.AssignPatProp inside = refl
tidied-plain h.ImportNamedSpecifier [] = refl
tidied-plain h.ImportNamedSpecifier (x ∷ []) = refl
tidied-plain h.ImportNamedSpecifier (x ∷ y ∷ rest) = ap not (tidied-ends (x ∷ y ∷ rest))
tidied-plain h.ExportNamedSpecifier [] = refl
tidied-plain h.ExportNamedSpecifier (x ∷ []) = refl
tidied-plain h.ExportNamedSpecifier (x ∷ y ∷ rest) = ap not (tidied-ends (x ∷ y ∷ rest))
tidied-plain (h.ImportDecl meta) inside = refl
tidied-plain (h.NamedExport meta) inside = refl
tidied-plain (h.ExportAll meta) inside = refl
tidied-plain (h.VarDecl kind meta) inside = refl
tidied-plain _ inside = refl

-- the edits of a tidy tree
both : {around : Around} {changes rest : List Change} {one other made its : List Item} →
    one ≡ other → made ≡ its → Edits around changes other its rest →
    Edits around changes one made rest
both {around = around} {changes = changes} {rest = rest} {other = other} {made = made} a b edits =
    subst (λ l. Edits around changes l made rest) (sym a)
    (subst (λ l. Edits around changes other l rest) (sym b) edits)

word-stays : {around : Around} {changes : List Change} (field : ℕ) (x : Text) (ctxt : ℕ)
    (role : Role) →
    is_occurrence role ≡ false →
    Edits around changes (tidied (h.Ident field x ctxt role ∷ []))
    (tidied (h.Ident field x ctxt role ∷ [])) changes
word-stays field x ctxt r.Word plain = c.Word field x 0 r.Word refl
word-stays field x ctxt r.Binding plain = c.Word field x ctxt r.Binding plain
word-stays field x ctxt r.Reference plain = c.Word field x ctxt r.Reference plain

pub tidied-edits : {around : Around} {changes rest : List Change} {before made : List Item} →
    Edits around changes before made rest → Edits around changes (tidied before) (tidied made) rest
tidied-edits c.Nothing = c.Nothing
tidied-edits (c.Joined {first = first} {made_first = made_first} {second = second} {made_second = made_second} d e) = both (tidied-append first second) (tidied-append made_first made_second) (c.Joined (tidied-edits d) (tidied-edits e))
tidied-edits (c.Hole field) = c.Hole field
tidied-edits (c.Word field x ctxt role plain) = word-stays field x ctxt role plain
tidied-edits (c.Name around {changes = changes} field x ctxt role occurs) =
    both (ap (λ y. y ∷ []) (tidied-name field x ctxt role occurs))
    (tidied-place around (next changes) field x ctxt role occurs)
    (c.Name around field x ctxt role occurs)
tidied-edits (c.Inside {changes = changes} {rest = rest} field head {inside = inside} {made = made} plain one) =
    both (tidied-node field head inside) (tidied-node field head made)
    (c.Inside field (cleared_head head) (tidied-plain head inside ∙ plain) (subst (λ a. Edits a changes (tidied inside) (tidied made) rest) (sym (tidied-around head inside)) (tidied-edits one)))
tidied-edits (c.Shorthand {changes = changes} field x ctxt role {default = default} {made = made} occurs one) =
    both (tidied-node field h.AssignPatProp (binding None 0 x ctxt role ++ default) ∙ ap (node field h.AssignPatProp) (tidied-append (binding None 0 x ctxt role) default ∙ ap (λ l. l ++ tidied default) (tidied-binding None 0 x ctxt role occurs)))
    (tidied-short (next changes) field x ctxt role made occurs)
    (c.Shorthand field x ctxt role occurs (tidied-edits one))

-- The identifiers stay.

tidied-names : (l : List Item) → idents_among (tidied l) ≡ idents_among l
tidied-names [] = refl
tidied-names (h.Open field head ∷ l) = tidied-names l
tidied-names (h.Ident field x ctxt r.Word ∷ l) = tidied-names l
tidied-names (h.Ident field x ctxt r.Binding ∷ l) = ap (λ rest. (x, ctxt) ∷ rest) (tidied-names l)
tidied-names (h.Ident field x ctxt r.Reference ∷ l) = ap (λ rest. (x, ctxt) ∷ rest) (tidied-names l)
tidied-names (h.Hole field ∷ l) = tidied-names l
tidied-names (h.Close ∷ l) = tidied-names l

pub tidied-idents : (l : List Item) → idents (tidied l) ≡ idents l
tidied-idents l = idents-names (tidied l) ∙ tidied-names l ∙ sym (idents-names l)

-- in either order
pub tidied-with_idents : (tree : List Item) → IsEditable tree → (news : List Ident) →
    length news ≡ length (idents tree) →
    tidied (with_idents tree news) ≡ with_idents (tidied tree) news
tidied-with_idents tree editable news same =
    let it = edits-with tree editable news same in
    ap tidied (sym (rebuilt_so (record { rest = []; by = it.edits })))
    ∙ rebuilt_so (record { rest = []; by = tidied-edits it.edits })
    ∙ ap (λ l. rebuilt (tidied tree) (changes_to l news)) (sym (tidied-idents tree))

-- Where contexts are 0, to clear is to tidy.

abbrev AreZero : List Ident → Type 0
AreZero [] = ⊤
AreZero (i ∷ rest) = (i.1 ≡ 0) × AreZero rest

cleared-names : (l : List Item) → AreZero (idents_among l) → cleared l ≡ tidied l
cleared-names [] zeros = refl
cleared-names (h.Open field head ∷ l) zeros =
    ap (λ rest. h.Open field (cleared_head head) ∷ rest) (cleared-names l zeros)
cleared-names (h.Ident field x ctxt r.Word ∷ l) zeros =
    ap (λ rest. h.Ident field x 0 r.Word ∷ rest) (cleared-names l zeros)
cleared-names (h.Ident field x ctxt r.Binding ∷ l) zeros =
    ap₂ (λ (k : ℕ) (rest : List Item). h.Ident field x k r.Binding ∷ rest) (sym zeros.0)
    (cleared-names l zeros.1)
cleared-names (h.Ident field x ctxt r.Reference ∷ l) zeros =
    ap₂ (λ (k : ℕ) (rest : List Item). h.Ident field x k r.Reference ∷ rest) (sym zeros.0)
    (cleared-names l zeros.1)
cleared-names (h.Hole field ∷ l) zeros = ap (λ rest. h.Hole field ∷ rest) (cleared-names l zeros)
cleared-names (h.Close ∷ l) zeros = ap (λ rest. h.Close ∷ rest) (cleared-names l zeros)

zeros-of : {A : Type 0} (f : A → Text) (xs : List A) → AreZero (map (λ x. (f x, 0)) xs)
zeros-of f [] = tt
zeros-of f (x ∷ xs) = (refl, zeros-of f xs)

pub cleared-tidied : {A : Type 0} (f : A → Text) (xs : List A) (l : List Item) →
    idents l ≡ map (λ x. (f x, 0)) xs → cleared l ≡ tidied l
cleared-tidied f xs l is = cleared-names l (subst AreZero (sym is ∙ idents-names l) (zeros-of f xs))
