-- The parts of a tree, by its list, as they are edited, whatever becomes of its identifiers; and that to edit a tree
-- twice is to edit it once. What a walk edits is `Edits`; here the changes go by identifiers and not by their turn.
use Rattle.std.proofs.Common.{◌≡◌, ℕ, Bool, true, false, List, [], ◌∷◌, ◌++◌, Option, Some, None, map, bytes_eq, refl, ap, sym, ◌∙◌, subst, append_assoc}
use Rattle.std.specs.Prelude.{codes, if◌then◌else◌}
use Rattle.std.proofs.lemmas.List.{map-append}
use Rattle.bundle_syntax.specs.declared.piece.Role.{Role}
use Rattle.bundle_syntax.specs.declared.piece.Role.TheVariants as r
use Rattle.bundle_syntax.specs.Item as h
use Rattle.bundle_syntax.specs.Item.{Item, Head}
use Rattle.bundle_rules.specs.Nodes.{Text}
use Rattle.bundle_rules.specs.Shorthands.{is_object}
use Rattle.bundle_rules.specs.Shape.{is_specifier}
use Rattle.bundle_rules.specs.Idents.{Ident}
use Rattle.bundle_rules.specs.Rebuilds.{Change, plain_key, key_in_object}
use Rattle.bundle_tree_places.specs.Edits as e
use Rattle.bundle_tree_places.specs.Edits.{Around, Anywhere, InObject, InSpecifier, Edits, node, is_occurrence, next, renamed, around_in, is_plain, in_its_place, binding, pattern_in_its_place, shorthand_in_its_place}

-- Parts.

-- a plain name, which stays: a word or a string
pub data IsPlainName : List Item → Type 0 where
  word : (field : ℕ) (x : Text) (ctxt : ℕ) → IsPlainName (h.Ident field x ctxt r.Word ∷ [])
  text : (field : ℕ) (value : Text) (raw : Option Text) → IsPlainName (node field (h.Str value raw) [])

-- what stands in a specifier: a name of this module, with or without another one, or names of another module alone
pub data Specified : List Item → Type 0 where
  alone : (field : ℕ) (x : Text) (ctxt : ℕ) (role : Role) → is_occurrence role ≡ true → Specified (h.Ident field x ctxt role ∷ [])
  named : (field : ℕ) (x : Text) (ctxt : ℕ) (role : Role) → is_occurrence role ≡ true → {name : List Item} → IsPlainName name → Specified (h.Ident field x ctxt role ∷ name)
  plain : {name : List Item} → IsPlainName name → Specified name
  plains : {first second : List Item} → IsPlainName first → IsPlainName second → Specified (first ++ second)

-- a node that stays whatever is in it
abbrev pub is_open : Head → Bool
is_open h.AssignPatProp = false
is_open h.ImportNamedSpecifier = false
is_open h.ExportNamedSpecifier = false
is_open head = true

-- a part of a tree, directly in an object literal or elsewhere
pub data Part : (in_object : Bool) → List Item → Type 0 where
  Nothing : {o : Bool} → Part o []
  Joined : {o : Bool} {first second : List Item} → Part o first → Part o second → Part o (first ++ second)
  Hole : {o : Bool} (field : ℕ) → Part o (h.Hole field ∷ [])
  Plain : {o : Bool} {name : List Item} → IsPlainName name → Part o name
  Name : (o : Bool) (field : ℕ) (x : Text) (ctxt : ℕ) (role : Role) → is_occurrence role ≡ true → Part o (h.Ident field x ctxt role ∷ [])
  Inside : {o : Bool} (field : ℕ) (head : Head) {inside : List Item} → is_open head ≡ true → Part (is_object head) inside → Part o (node field head inside)
  Specifier : {o : Bool} (field : ℕ) (head : Head) {inside : List Item} → is_specifier head ≡ true → Specified inside → Part o (node field head inside)
  Shorthand : {o : Bool} (field : ℕ) (x : Text) (ctxt : ℕ) (role : Role) {default : List Item} → is_occurrence role ≡ true → Part false default → Part o (node field h.AssignPatProp (binding None 0 x ctxt role ++ default))

-- What becomes of it.

-- what is around it
abbrev pub surrounding : Bool → Around
surrounding true = InObject
surrounding false = Anywhere

abbrev pub specified : (Ident → Change) → {inside : List Item} → Specified inside → List Item
specified F (alone field x ctxt role occurs) = in_its_place InSpecifier (Some (F (x, ctxt))) field x ctxt role
specified F (named field x ctxt role occurs {name = name} its) = renamed (Some (F (x, ctxt))) field x ctxt role ∷ name
specified F (plain {name = name} its) = name
specified F (plains {first = first} {second = second} one two) = first ++ second

abbrev pub made : (Ident → Change) → {o : Bool} {tree : List Item} → Part o tree → List Item
made F Nothing = []
made F (Joined one two) = made F one ++ made F two
made F (Hole field) = h.Hole field ∷ []
made F (Plain {name = name} its) = name
made F (Name o field x ctxt role occurs) = in_its_place (surrounding o) (Some (F (x, ctxt))) field x ctxt role
made F (Inside field head opens one) = node field head (made F one)
made F (Specifier field head is one) = node field head (specified F one)
made F (Shorthand field x ctxt role occurs one) = shorthand_in_its_place (Some (F (x, ctxt))) field x ctxt role (made F one)

-- its identifiers, in their turn
abbrev pub names_specified : {inside : List Item} → Specified inside → List Ident
names_specified (alone field x ctxt role occurs) = (x, ctxt) ∷ []
names_specified (named field x ctxt role occurs its) = (x, ctxt) ∷ []
names_specified (plain its) = []
names_specified (plains one two) = []

abbrev pub names : {o : Bool} {tree : List Item} → Part o tree → List Ident
names Nothing = []
names (Joined one two) = names one ++ names two
names (Hole field) = []
names (Plain its) = []
names (Name o field x ctxt role occurs) = (x, ctxt) ∷ []
names (Inside field head opens one) = names one
names (Specifier field head is one) = names_specified one
names (Shorthand field x ctxt role occurs one) = (x, ctxt) ∷ names one

-- The walk edits it so.

open_is_plain : (head : Head) (inside : List Item) → is_open head ≡ true → is_plain head inside ≡ true
open_is_plain h.AssignPatProp inside opens = cc
open_is_plain h.ImportNamedSpecifier inside opens = cc
open_is_plain h.ExportNamedSpecifier inside opens = cc
open_is_plain _ inside opens = refl

open_surrounds : (head : Head) (inside : List Item) → is_open head ≡ true → around_in head inside ≡ surrounding (is_object head)
open_surrounds h.ImportNamedSpecifier inside opens = cc
open_surrounds h.ExportNamedSpecifier inside opens = cc
open_surrounds h.ObjectLit inside opens = refl
open_surrounds _ inside opens = refl

edits_plain : {name : List Item} (around : Around) (changes : List Change) → IsPlainName name → Edits around changes name name changes
edits_plain around changes (word field x ctxt) = e.Word field x ctxt r.Word refl
edits_plain around changes (text field value raw) = e.Inside field (h.Str value raw) {inside = []} refl e.Nothing

-- what is around the names of a specifier
names_around : (head : Head) (inside : List Item) → is_specifier head ≡ true → around_in head inside ≡ around_in h.ImportNamedSpecifier inside
names_around h.ImportNamedSpecifier inside is = refl
names_around h.ExportNamedSpecifier [] is = refl
names_around h.ExportNamedSpecifier (x ∷ []) is = refl
names_around h.ExportNamedSpecifier (x ∷ y ∷ rest) is = refl
names_around _ inside is = cc

specifier_is_plain : (head : Head) {inside : List Item} → is_specifier head ≡ true → Specified inside → is_plain head inside ≡ true
specifier_is_plain head {inside = inside} is one = same head inside is ∙ second one
  where
    same : (head : Head) (inside : List Item) → is_specifier head ≡ true → is_plain head inside ≡ e.is_second_plain inside
    same h.ImportNamedSpecifier inside is = refl
    same h.ExportNamedSpecifier inside is = refl
    same _ inside is = cc

    second : {inside : List Item} → Specified inside → e.is_second_plain inside ≡ true
    second (alone field x ctxt role occurs) = refl
    second (named field x ctxt role occurs (word f y d)) = refl
    second (named field x ctxt role occurs (text f value raw)) = refl
    second (plain (word f y d)) = refl
    second (plain (text f value raw)) = refl
    second (plains (word f y d) (word g z k)) = refl
    second (plains (word f y d) (text g value raw)) = refl
    second (plains (text f value raw) (word g z k)) = refl
    second (plains (text f value raw) (text g other taken)) = refl

edits_specified : (F : Ident → Change) (rest : List Change) {inside : List Item} (one : Specified inside) → Edits (around_in h.ImportNamedSpecifier inside) (map F (names_specified one) ++ rest) inside (specified F one) rest
edits_specified F rest (alone field x ctxt role occurs) = e.Name InSpecifier field x ctxt role occurs
edits_specified F rest (named field x ctxt role occurs (word f y d)) = e.Joined (e.Name Anywhere field x ctxt role occurs) (edits_plain Anywhere rest (word f y d))
edits_specified F rest (named field x ctxt role occurs (text f value raw)) = e.Joined (e.Name Anywhere field x ctxt role occurs) (edits_plain Anywhere rest (text f value raw))
edits_specified F rest (plain its) = edits_plain _ rest its
edits_specified F rest (plains one two) = e.Joined (edits_plain _ rest one) (edits_plain _ rest two)

pub edits : (F : Ident → Change) (rest : List Change) {o : Bool} {tree : List Item} (one : Part o tree) → Edits (surrounding o) (map F (names one) ++ rest) tree (made F one) rest
edits F rest Nothing = e.Nothing
edits F rest {o = o} (Joined {first = first} {second = second} one two) =
    subst (λ changes. Edits (surrounding o) changes (first ++ second) (made F one ++ made F two) rest)
    (sym (ap (λ changes. changes ++ rest) (map-append F (names one) (names two)) ∙ append_assoc (map F (names one)) (map F (names two)) rest))
    (e.Joined (edits F (map F (names two) ++ rest) one) (edits F rest two))
edits F rest (Hole field) = e.Hole field
edits F rest {o = o} (Plain its) = edits_plain (surrounding o) rest its
edits F rest (Name o field x ctxt role occurs) = e.Name (surrounding o) field x ctxt role occurs
edits F rest (Inside field head {inside = inside} opens one) =
    e.Inside field head (open_is_plain head inside opens)
    (subst (λ around. Edits around (map F (names one) ++ rest) inside (made F one) rest) (sym (open_surrounds head inside opens)) (edits F rest one))
edits F rest (Specifier field head {inside = inside} is one) =
    e.Inside field head (specifier_is_plain head is one)
    (subst (λ around. Edits around (map F (names_specified one) ++ rest) inside (specified F one) rest) (sym (names_around head inside is)) (edits_specified F rest one))
edits F rest (Shorthand field x ctxt role occurs one) = e.Shorthand field x ctxt role occurs (edits F rest one)

-- It is a part of a tree again.

abbrev pub either_specified : (b : Bool) {xs ys : List Item} → Specified xs → Specified ys → Specified (if b then xs else ys)
either_specified true one two = one
either_specified false one two = two

abbrev pub either : (b : Bool) {o : Bool} {xs ys : List Item} → Part o xs → Part o ys → Part o (if b then xs else ys)
either true one two = one
either false one two = two

abbrev pub specified_again : (F : Ident → Change) {inside : List Item} (one : Specified inside) → Specified (specified F one)
specified_again F (alone field x ctxt role occurs) =
    let c : Change = F (x, ctxt) in
    either_specified c.is_spelled_out (named field c.ident.0 c.ident.1 role occurs (word 1 x 0)) (alone field c.ident.0 c.ident.1 role occurs)
specified_again F (named field x ctxt role occurs its) = named field (F (x, ctxt)).ident.0 (F (x, ctxt)).ident.1 role occurs its
specified_again F (plain its) = plain its
specified_again F (plains one two) = plains one two

abbrev pub key_part : (x : Text) → Part false (plain_key x)
key_part x = Inside 0 (h.IdentName x) refl Nothing

abbrev pub object_key_part : (x : Text) → Part false (key_in_object x)
object_key_part x = either (bytes_eq x (codes "__proto__")) (Inside 0 h.ComputedPropName refl (Inside 0 (h.Str x None) refl Nothing)) (key_part x)

abbrev pub binding_part : {o : Bool} (new : Ident) (field : ℕ) (role : Role) → is_occurrence role ≡ true → Part o (node field h.BindingIdent (h.Ident 0 new.0 new.1 role ∷ []))
binding_part new field role occurs = Inside field h.BindingIdent refl (Name false 0 new.0 new.1 role occurs)

abbrev pub pair_part : (new : Ident) (field : ℕ) (x : Text) (role : Role) → is_occurrence role ≡ true → Part true (node field h.KeyValueProp (key_in_object x ++ h.Ident 1 new.0 new.1 role ∷ []))
pair_part new field x role occurs = Inside field h.KeyValueProp refl (Joined (object_key_part x) (Name false 1 new.0 new.1 role occurs))

abbrev pub pattern_part : (c : Change) (x : Text) (ctxt : ℕ) (role : Role) → is_occurrence role ≡ true → (default : List Item) → Part false default → Part false (pattern_in_its_place (Some c) x ctxt role default)
pattern_part c x ctxt role occurs [] one = binding_part c.ident 1 role occurs
pattern_part c x ctxt role occurs (y ∷ ys) one = Inside 1 h.AssignPat refl (Joined (binding_part c.ident 0 role occurs) one)

abbrev pub again : (F : Ident → Change) {o : Bool} {tree : List Item} (one : Part o tree) → Part o (made F one)
again F Nothing = Nothing
again F (Joined one two) = Joined (again F one) (again F two)
again F (Hole field) = Hole field
again F (Plain its) = Plain its
again F (Name false field x ctxt role occurs) = Name false field (F (x, ctxt)).ident.0 (F (x, ctxt)).ident.1 role occurs
again F (Name true field x ctxt role occurs) =
    let c : Change = F (x, ctxt) in
    either c.is_spelled_out (pair_part c.ident field x role occurs) (Name true field c.ident.0 c.ident.1 role occurs)
again F (Inside field head opens one) = Inside field head opens (again F one)
again F (Specifier field head is one) = Specifier field head is (specified_again F one)
again F (Shorthand field x ctxt role occurs one) =
    let c : Change = F (x, ctxt) in
    either c.is_spelled_out
    (Inside field h.KeyValuePatProp refl (Joined (key_part x) (pattern_part c x ctxt role occurs (made F one) (again F one))))
    (Shorthand field c.ident.0 c.ident.1 role occurs (again F one))
