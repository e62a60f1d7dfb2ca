-- What `Edits` says of a whole tree is what `rebuilt` makes of it: the rebuilding of the list takes the same steps.
use Rattle.std.proofs.Common.{◌≡◌, ℕ, zero, suc, ◌+◌, ◌==◌, ◌&&◌, Bool, true, false, not, List, [], ◌∷◌, ◌++◌, Option, Some, None, drop, take, refl, ap, sym, ◌∙◌, subst, append_assoc, append-nil, zero-add, add-zero}
use Rattle.std.specs.Prelude.{slice_get, count_by, if◌then◌else◌}
use Rattle.std.proofs.lemmas.List.{drop-drop}
use Rattle.std.proofs.Math.Dec.{eqb-suc-zero}
use Rattle.bundle_syntax.specs.declared.piece.Role.{Role}
use Rattle.bundle_syntax.specs.declared.piece.Role.TheVariants as r
use Rattle.bundle_syntax.specs.Item as h
use Rattle.bundle_syntax.specs.Item.{Item, Head}
use Rattle.bundle_rules.specs.Nodes.{Text}
use Rattle.bundle_rules.specs.Entries.{is_end}
use Rattle.bundle_rules.specs.Meaning.{ends_at, has_default, symbol_of}
use Rattle.bundle_rules.specs.Rebuilds.{Change, spells_out, plain_key, rebuilt_from, rebuilt}
use Rattle.bundle_tree_places.proofs.Spelled.{Around}
use Rattle.bundle_tree_places.proofs.Spelled as a
use Rattle.bundle_tree_places.proofs.Spelled.{around_of, field_in, pattern_begin, begun_in, ended_in, named_in}
use Rattle.bundle_tree_places.proofs.Progress.{is_first_key_spelled_out, IsAt}
use Rattle.bundle_tree_places.proofs.Progress as progress
use Rattle.bundle_tree_places.specs.Edits.{Around as Surrounding, Anywhere, InObject, InSpecifier, Edits, Edited, Nothing, Joined, Hole, Word, Name, Inside, Shorthand, node, is_occurrence, next, renamed, around_in, ends_in_name, is_plain, in_its_place, binding, pattern_in_its_place}
use Rattle.bundle_tree_places.proofs.ListLemmas.{slice_get-drop}
use Rattle.bundle_tree_places.proofs.ProgressLemmas.{begin-next, end-next_some, hole-next, word-next, name-next, at_start}

-- How edited elements begin.

-- there is an element
data IsFilled : List Item → Type 0 where
  filled : (first : Item) (more : List Item) → IsFilled (first ∷ more)

-- the first element ends no node
data IsBegun : List Item → Type 0 where
  begun : (first : Item) (more : List Item) → is_end first ≡ false → IsBegun (first ∷ more)

-- nothing becomes nothing, and takes no change; elements that begin with no end become something
data Extent : List Change → List Change → List Item → List Item → Type 0 where
  empty : {changes : List Change} → Extent changes changes [] []
  full : {changes rest : List Change} {before after : List Item} → IsBegun before → IsFilled after → Extent changes rest before after

filled_append : {list : List Item} (more : List Item) → IsFilled list → IsFilled (list ++ more)
filled_append more (filled first others) = filled first (others ++ more)

begun_append : {list : List Item} (more : List Item) → IsBegun list → IsBegun (list ++ more)
begun_append more (begun first others no_end) = begun first (others ++ more) no_end

-- either of two lists has an element
either_filled : (b : Bool) {xs ys : List Item} → IsFilled xs → IsFilled ys → IsFilled (if b then xs else ys)
either_filled true one two = one
either_filled false one two = two

place_filled : (around : Surrounding) (change : Option Change) (field : ℕ) (x : Text) (ctxt : ℕ) (role : Role) → IsFilled (in_its_place around change field x ctxt role)
place_filled Anywhere change field x ctxt role = filled _ _
place_filled InObject change field x ctxt role = either_filled (spells_out change) (filled _ _) (filled _ _)
place_filled InSpecifier change field x ctxt role = either_filled (spells_out change) (filled _ _) (filled _ _)

extent_joined : {changes between rest : List Change} {first made_first second made_second : List Item} → Extent changes between first made_first → Extent between rest second made_second → Extent changes rest (first ++ second) (made_first ++ made_second)
extent_joined empty two = two
extent_joined {second = second} {made_second = made_second} (full begins becomes) two = full (begun_append second begins) (filled_append made_second becomes)

extent : {around : Surrounding} {changes rest : List Change} {before after : List Item} → Edits around changes before after rest → Extent changes rest before after
extent Nothing = empty
extent (Joined one two) = extent_joined (extent one) (extent two)
extent (Hole field) = full (begun _ _ refl) (filled _ _)
extent (Word field x ctxt role plain) = full (begun _ _ refl) (filled _ _)
extent (Name around {changes = changes} field x ctxt role occurs) = full (begun _ _ refl) (place_filled around (next changes) field x ctxt role)
extent (Inside field head plain one) = full (begun _ _ refl) (filled _ _)
extent {changes = changes} (Shorthand field x ctxt role occurs one) = full (begun _ _ refl) (either_filled (spells_out (next changes)) (filled _ _) (filled _ _))

-- Where edited elements stand.

-- there is at most one element, and the node ends behind it
data IsLone : List Item → List Item → Type 0 where
  no_element : {post : List Item} → IsLone [] post
  one_element : {x : Item} {post : List Item} → ends_at (slice_get post 0) ≡ true → IsLone (x ∷ []) post

-- what the relation has around these elements, with those behind them, is what the innermost open node asks
data Fits : Surrounding → Around → List Item → List Item → Type 0 where
  in_object : {before post : List Item} → Fits InObject a.Object before post
  in_specifier : {before post : List Item} → IsLone before post → Fits InSpecifier a.Specifier before post
  in_other : {before post : List Item} → Fits Anywhere a.Other before post
  as_default : {before post : List Item} → Fits Anywhere (a.Property true) before post
  with_plain : {before post : List Item} → (ends_in_name before && ends_at (slice_get post 0)) ≡ false → Fits Anywhere a.Specifier before post

lone_first : (first second post : List Item) → IsLone (first ++ second) post → IsLone first (second ++ post)
lone_first [] second post lone = no_element
lone_first (x ∷ []) [] post lone = lone
lone_first (x ∷ []) (y ∷ ys) post lone = elim lone [ ]
lone_first (x ∷ z ∷ xs) second post lone = elim lone [ ]

lone_second : (first second post : List Item) → IsLone (first ++ second) post → IsLone second post
lone_second [] second post lone = lone
lone_second (x ∷ xs) [] post lone = no_element
lone_second (x ∷ []) (y ∷ ys) post lone = elim lone [ ]
lone_second (x ∷ z ∷ xs) (y ∷ ys) post lone = elim lone [ ]

-- the last element counts
ends_in_name-cons : (x y : Item) (rest : List Item) → ends_in_name (x ∷ y ∷ rest) ≡ ends_in_name (y ∷ rest)
ends_in_name-cons (h.Open field head) y rest = refl
ends_in_name-cons (h.Ident field symbol ctxt role) y rest = refl
ends_in_name-cons (h.Hole field) y rest = refl
ends_in_name-cons h.Close y rest = refl

ends_in_name-append : (first : List Item) (y : Item) (rest : List Item) → ends_in_name (first ++ y ∷ rest) ≡ ends_in_name (y ∷ rest)
ends_in_name-append [] y rest = refl
ends_in_name-append (x ∷ []) y rest = ends_in_name-cons x y rest
ends_in_name-append (x ∷ z ∷ xs) y rest = ends_in_name-cons x z (xs ++ y ∷ rest) ∙ ends_in_name-append (z ∷ xs) y rest

and-false : (b : Bool) → (b && false) ≡ false
and-false true = refl
and-false false = refl

plain_first : {changes rest : List Change} {second made_second : List Item} (first post : List Item) → Extent changes rest second made_second → (ends_in_name (first ++ second) && ends_at (slice_get post 0)) ≡ false → (ends_in_name first && ends_at (slice_get (second ++ post) 0)) ≡ false
plain_first first post empty plain = ap (λ list. ends_in_name list && ends_at (slice_get post 0)) (sym (append-nil first)) ∙ plain
plain_first first post (full (begun y more no_end) made) plain = ap (λ b. ends_in_name first && b) no_end ∙ and-false (ends_in_name first)

plain_second : (first second post : List Item) → (ends_in_name (first ++ second) && ends_at (slice_get post 0)) ≡ false → (ends_in_name second && ends_at (slice_get post 0)) ≡ false
plain_second first [] post plain = refl
plain_second first (y ∷ ys) post plain = ap (λ b. b && ends_at (slice_get post 0)) (sym (ends_in_name-append first y ys)) ∙ plain

fits_first : {around : Surrounding} {asked : Around} {changes rest : List Change} {made_second : List Item} (first second post : List Item) → Extent changes rest second made_second → Fits around asked (first ++ second) post → Fits around asked first (second ++ post)
fits_first first second post its_extent in_object = in_object
fits_first first second post its_extent (in_specifier lone) = in_specifier (lone_first first second post lone)
fits_first first second post its_extent in_other = in_other
fits_first first second post its_extent as_default = as_default
fits_first first second post its_extent (with_plain plain) = with_plain (plain_first first post its_extent plain)

fits_second : {around : Surrounding} {asked : Around} (first second post : List Item) → Fits around asked (first ++ second) post → Fits around asked second post
fits_second first second post in_object = in_object
fits_second first second post (in_specifier lone) = in_specifier (lone_second first second post lone)
fits_second first second post in_other = in_other
fits_second first second post as_default = as_default
fits_second first second post (with_plain plain) = with_plain (plain_second first second post plain)

-- what the elements in a node fit: those of a specifier with more than one name
with_second : (inside post : List Item) → not (ends_in_name inside) ≡ true → Fits Anywhere a.Specifier inside (h.Close ∷ post)
with_second inside post plain = with_plain (both (ends_in_name inside) plain)
  where
    both : (b : Bool) → not b ≡ true → (b && true) ≡ false
    both true e = sym e
    both false e = refl

fits_import : (inside post : List Item) → is_plain h.ImportNamedSpecifier inside ≡ true → Fits (around_in h.ImportNamedSpecifier inside) a.Specifier inside (h.Close ∷ post)
fits_import [] post plain = with_second [] post refl
fits_import (x ∷ []) post plain = in_specifier (one_element refl)
fits_import (x ∷ y ∷ rest) post plain = with_second (x ∷ y ∷ rest) post plain

fits_export : (inside post : List Item) → is_plain h.ExportNamedSpecifier inside ≡ true → Fits (around_in h.ExportNamedSpecifier inside) a.Specifier inside (h.Close ∷ post)
fits_export [] post plain = with_second [] post refl
fits_export (x ∷ []) post plain = in_specifier (one_element refl)
fits_export (x ∷ y ∷ rest) post plain = with_second (x ∷ y ∷ rest) post plain

fits_inside : (head : Head) (inside post : List Item) (is_spelled_out default : Bool) → is_plain head inside ≡ true → Fits (around_in head inside) (around_of head is_spelled_out default) inside (h.Close ∷ post)
fits_inside h.AssignPatProp inside post is_spelled_out default plain = cc
fits_inside h.ObjectLit inside post is_spelled_out default plain = in_object
fits_inside h.ImportNamedSpecifier inside post is_spelled_out default plain = fits_import inside post plain
fits_inside h.ExportNamedSpecifier inside post is_spelled_out default plain = fits_export inside post plain
fits_inside _ inside post is_spelled_out default plain = in_other

-- What stands in the place of an element.

-- the beginning of a node that stays
begun_in-plain : (around inner : Around) (field : ℕ) (head : Head) (key : Text) (inside : List Item) → is_plain head inside ≡ true → begun_in around inner field head key ≡ h.Open (field_in around field) head ∷ []
begun_in-plain around inner field h.AssignPatProp key inside plain = cc
begun_in-plain around inner field _ key inside plain = refl

-- the end of a node that stays
ended_in-plain : (head : Head) (inside : List Item) (is_spelled_out default : Bool) → is_plain head inside ≡ true → ended_in (around_of head is_spelled_out default) ≡ h.Close ∷ []
ended_in-plain h.AssignPatProp inside is_spelled_out default plain = cc
ended_in-plain _ inside is_spelled_out default plain = refl

-- the field of a node directly in another
default_field : (field : ℕ) → (if field == 0 then 0 else field) ≡ field
default_field zero = refl
default_field (suc n) = ap (λ b. if b then 0 else suc n) (eqb-suc-zero n)

field_in-fits : {around : Surrounding} {asked : Around} {before post : List Item} (field : ℕ) → Fits around asked before post → field_in asked field ≡ field
field_in-fits field in_object = refl
field_in-fits field (in_specifier lone) = refl
field_in-fits field in_other = refl
field_in-fits field as_default = default_field field
field_in-fits field (with_plain plain) = refl

same_either : (b : Bool) (list : List Item) → (if b then list else list) ≡ list
same_either true list = refl
same_either false list = refl

-- an occurrence where a name is just a name
named_in-other : (field : ℕ) (x : Text) (ctxt : ℕ) (role : Role) (is_last : Bool) (change : Option Change) → named_in a.Other field is_last (x, ctxt) role change ≡ renamed change field x ctxt role ∷ []
named_in-other field x ctxt role is_last None = refl
named_in-other field x ctxt role is_last (Some change) = same_either change.is_spelled_out _

named_in-default : (field : ℕ) (x : Text) (ctxt : ℕ) (role : Role) (is_last : Bool) (change : Option Change) → named_in (a.Property true) field is_last (x, ctxt) role change ≡ renamed change field x ctxt role ∷ []
named_in-default field x ctxt role is_last None = refl
named_in-default field x ctxt role is_last (Some change) = same_either change.is_spelled_out _

-- in a specifier, where the node does not end behind it
named_in-not_last : (field : ℕ) (x : Text) (ctxt : ℕ) (role : Role) (change : Option Change) → named_in a.Specifier field false (x, ctxt) role change ≡ renamed change field x ctxt role ∷ []
named_in-not_last field x ctxt role None = refl
named_in-not_last field x ctxt role (Some change) = same_either change.is_spelled_out _

-- and where it does
named_in-last : (field : ℕ) (x : Text) (ctxt : ℕ) (role : Role) (change : Option Change) → named_in a.Specifier field true (x, ctxt) role change ≡ in_its_place InSpecifier change field x ctxt role
named_in-last field x ctxt role None = refl
named_in-last field x ctxt role (Some change) = refl

-- in an object literal
named_in-object : (field : ℕ) (x : Text) (ctxt : ℕ) (role : Role) (is_last : Bool) (change : Option Change) → named_in a.Object field is_last (x, ctxt) role change ≡ in_its_place InObject change field x ctxt role
named_in-object field x ctxt role is_last None = refl
named_in-object field x ctxt role is_last (Some change) = ap (λ (inside : List Item). if change.is_spelled_out then h.Open field h.KeyValueProp ∷ inside else h.Ident field change.ident.0 change.ident.1 role ∷ []) (sym (append_assoc _ (h.Ident 1 change.ident.0 change.ident.1 role ∷ []) (h.Close ∷ [])))

-- a name that does not end its specifier
not_last : (b end : Bool) → b ≡ true → (b && end) ≡ false → end ≡ false
not_last true end is_name plain = plain
not_last false end is_name plain = cc

-- what stands in the place of an occurrence
named_in-fits : {around : Surrounding} {asked : Around} (post : List Item) (field : ℕ) (x : Text) (ctxt : ℕ) (role : Role) (change : Option Change) → is_occurrence role ≡ true → Fits around asked (h.Ident field x ctxt role ∷ []) post → named_in asked field (ends_at (slice_get post 0)) (x, ctxt) role change ≡ in_its_place around change field x ctxt role
named_in-fits post field x ctxt role change occurs in_object = named_in-object field x ctxt role (ends_at (slice_get post 0)) change
named_in-fits post field x ctxt role change occurs (in_specifier (one_element last)) = ap (λ is_last. named_in a.Specifier field is_last (x, ctxt) role change) last ∙ named_in-last field x ctxt role change
named_in-fits post field x ctxt role change occurs in_other = named_in-other field x ctxt role (ends_at (slice_get post 0)) change
named_in-fits post field x ctxt role change occurs as_default = named_in-default field x ctxt role (ends_at (slice_get post 0)) change
named_in-fits post field x ctxt role change occurs (with_plain plain) = ap (λ is_last. named_in a.Specifier field is_last (x, ctxt) role change) (not_last (is_occurrence role) (ends_at (slice_get post 0)) occurs plain) ∙ named_in-not_last field x ctxt role change

-- How far the rebuilding is.

-- the rebuilding made this list of the elements that it passed, and has these elements and changes left
record HasLeft (tree : List Item) (all : List Change) (list : List Item) (around : Around) (outer : List Around) (items : List Item) (changes : List Change) : Type 0 where
  place : ℕ
  count : ℕ
  at : IsAt tree all place list around outer count
  behind : drop place tree ≡ items
  left : changes ≡ drop count all

-- the same, with equal lists
same_left : (tree : List Item) (all : List Change) {list other_list : List Item} (around : Around) (outer : List Around) {items other_items : List Item} (changes : List Change) → list ≡ other_list → items ≡ other_items → HasLeft tree all list around outer items changes → HasLeft tree all other_list around outer other_items changes
same_left tree all {other_list = other_list} around outer {items = items} changes lists elements left =
    subst (λ xs. HasLeft tree all other_list around outer xs changes) elements (subst (λ xs. HasLeft tree all xs around outer items changes) lists left)

-- the next element
first_at : (tree : List Item) (place : ℕ) (x : Item) (more : List Item) → drop place tree ≡ x ∷ more → slice_get tree place ≡ Some x
first_at tree place x more e = ap (slice_get tree) (sym (add-zero place)) ∙ sym (slice_get-drop place tree 0) ∙ ap (λ (items : List Item). slice_get items 0) e

-- those behind it
drop_more : {A : Type 0} (n : ℕ) (xs : List A) {ys : List A} → drop n xs ≡ ys → drop (n + 1) xs ≡ drop 1 ys
drop_more n xs e = sym (drop-drop 1 n xs) ∙ ap (drop 1) e

-- the next change
next-is : (changes : List Change) → slice_get changes 0 ≡ next changes
next-is [] = refl
next-is (change ∷ rest) = refl

next_left : (all changes : List Change) (count : ℕ) → changes ≡ drop count all → slice_get all count ≡ next changes
next_left all changes count e = ap (slice_get all) (sym (add-zero count)) ∙ sym (slice_get-drop count all 0) ∙ ap (λ (cs : List Change). slice_get cs 0) (sym e) ∙ next-is changes

-- whether the property that the elements begin with is spelled out
key_left : (items : List Item) (all changes : List Change) (count : ℕ) → changes ≡ drop count all → is_first_key_spelled_out items changes 0 ≡ is_first_key_spelled_out items all count
key_left items all changes count e =
    let between : ℕ = count_by progress.is_occurrence (take 2 items) in
    ap (λ n. spells_out (slice_get changes n)) (zero-add between)
    ∙ ap (λ (cs : List Change). spells_out (slice_get cs between)) e
    ∙ ap spells_out (slice_get-drop count all between)

-- what a node asks, which begins before these elements
abbrev asked_of : ℕ → Head → List Item → List Change → Around
asked_of field head more changes = around_of head (is_first_key_spelled_out (h.Open field head ∷ more) changes 0) (has_default (h.Open field head ∷ more) 0)

-- a node begins
node_begins : (tree : List Item) (all : List Change) (list : List Item) (around : Around) (outer : List Around) (field : ℕ) (head : Head) (more : List Item) (changes : List Change) → HasLeft tree all list around outer (h.Open field head ∷ more) changes → HasLeft tree all (list ++ begun_in around (asked_of field head more changes) field head (symbol_of (slice_get (h.Open field head ∷ more) 2))) (asked_of field head more changes) (outer ++ around ∷ []) more changes
node_begins tree all list around outer field head more changes s =
    let inner : Around = asked_of field head more changes in
    let asks : inner ≡ around_of head (is_first_key_spelled_out (drop s.place tree) all s.count) (has_default (drop s.place tree) 0) =
    ap (λ key. around_of head key (has_default (h.Open field head ∷ more) 0)) (key_left (h.Open field head ∷ more) all changes s.count s.left)
    ∙ ap (λ (items : List Item). around_of head (is_first_key_spelled_out items all s.count) (has_default items 0)) (sym s.behind) in
    let passed : IsAt tree all (s.place + 1) (list ++ begun_in around inner field head (symbol_of (slice_get (drop s.place tree) 2))) inner (outer ++ around ∷ []) s.count =
    begin-next tree all s.place field head list around inner outer s.count s.at (first_at tree s.place (h.Open field head) more s.behind) asks in
    record {
      place = s.place + 1;
      count = s.count;
      at = subst (λ (items : List Item). IsAt tree all (s.place + 1) (list ++ begun_in around inner field head (symbol_of (slice_get items 2))) inner (outer ++ around ∷ []) s.count) s.behind passed;
      behind = drop_more s.place tree s.behind;
      left = s.left;
    }

-- a node ends
node_ends : (tree : List Item) (all : List Change) (list : List Item) (around next_around : Around) (outer : List Around) (more : List Item) (changes : List Change) → HasLeft tree all list around (outer ++ next_around ∷ []) (h.Close ∷ more) changes → HasLeft tree all (list ++ ended_in around) next_around outer more changes
node_ends tree all list around next_around outer more changes s =
    record {
      place = s.place + 1;
      count = s.count;
      at = end-next_some tree all s.place list around next_around (outer ++ next_around ∷ []) outer s.count s.at (first_at tree s.place h.Close more s.behind) refl;
      behind = drop_more s.place tree s.behind;
      left = s.left;
    }

-- a hole
hole_stays : (tree : List Item) (all : List Change) (list : List Item) (around : Around) (outer : List Around) (field : ℕ) (more : List Item) (changes : List Change) → HasLeft tree all list around outer (h.Hole field ∷ more) changes → HasLeft tree all (list ++ h.Hole field ∷ []) around outer more changes
hole_stays tree all list around outer field more changes s =
    record {
      place = s.place + 1;
      count = s.count;
      at = hole-next tree all s.place field list around outer s.count s.at (first_at tree s.place (h.Hole field) more s.behind);
      behind = drop_more s.place tree s.behind;
      left = s.left;
    }

-- a plain word
word_stays : (tree : List Item) (all : List Change) (list : List Item) (around : Around) (outer : List Around) (field : ℕ) (x : Text) (ctxt : ℕ) (role : Role) (more : List Item) (changes : List Change) → is_occurrence role ≡ false → HasLeft tree all list around outer (h.Ident field x ctxt role ∷ more) changes → HasLeft tree all (list ++ h.Ident field x ctxt role ∷ []) around outer more changes
word_stays tree all list around outer field x ctxt r.Word more changes plain s =
    record {
      place = s.place + 1;
      count = s.count;
      at = word-next tree all s.place field ctxt x list around outer s.count s.at (first_at tree s.place (h.Ident field x ctxt r.Word) more s.behind);
      behind = drop_more s.place tree s.behind;
      left = s.left;
    }
word_stays tree all list around outer field x ctxt r.Binding more changes plain s = cc
word_stays tree all list around outer field x ctxt r.Reference more changes plain s = cc

-- an element is an occurrence by its role
occurs_by_role : (field : ℕ) (x : Text) (ctxt : ℕ) (role : Role) → is_occurrence role ≡ true → progress.is_occurrence (h.Ident field x ctxt role) ≡ true
occurs_by_role field x ctxt r.Word occurs = cc
occurs_by_role field x ctxt r.Binding occurs = refl
occurs_by_role field x ctxt r.Reference occurs = refl

-- an occurrence
name_changes : (tree : List Item) (all : List Change) (list : List Item) (around : Around) (outer : List Around) (field : ℕ) (x : Text) (ctxt : ℕ) (role : Role) (more : List Item) (changes : List Change) → is_occurrence role ≡ true → HasLeft tree all list around outer (h.Ident field x ctxt role ∷ more) changes → HasLeft tree all (list ++ named_in around field (ends_at (slice_get more 0)) (x, ctxt) role (next changes)) around outer more (drop 1 changes)
name_changes tree all list around outer field x ctxt role more changes occurs s =
    let passed : IsAt tree all (s.place + 1) (list ++ named_in around field (ends_at (slice_get (drop s.place tree) 1)) (x, ctxt) role (slice_get all s.count)) around outer (s.count + 1) =
    name-next tree all s.place field ctxt x role list around outer s.count (occurs_by_role field x ctxt role occurs) s.at (first_at tree s.place (h.Ident field x ctxt role) more s.behind) in
    let by_items : IsAt tree all (s.place + 1) (list ++ named_in around field (ends_at (slice_get more 0)) (x, ctxt) role (slice_get all s.count)) around outer (s.count + 1) =
    subst (λ (items : List Item). IsAt tree all (s.place + 1) (list ++ named_in around field (ends_at (slice_get items 1)) (x, ctxt) role (slice_get all s.count)) around outer (s.count + 1)) s.behind passed in
    record {
      place = s.place + 1;
      count = s.count + 1;
      at = subst (λ change. IsAt tree all (s.place + 1) (list ++ named_in around field (ends_at (slice_get more 0)) (x, ctxt) role change) around outer (s.count + 1)) (next_left all changes s.count s.left) by_items;
      behind = drop_more s.place tree s.behind;
      left = ap (drop 1) s.left ∙ drop-drop 1 s.count all;
    }

-- A shorthand property of a pattern.

-- what it asks, where these elements follow its name
abbrev shorthand_asks : Bool → List Item → Around
shorthand_asks is_spelled_out behind = around_of h.AssignPatProp is_spelled_out (not (ends_at (slice_get behind 0)))

-- what stands in its place, spelled out or not
abbrev shorthand_as : Bool → Option Change → ℕ → Text → ℕ → Role → (default : List Item) → List Item
shorthand_as is_spelled_out change field x ctxt role default =
    if is_spelled_out
    then node field h.KeyValuePatProp (plain_key x ++ pattern_in_its_place change x ctxt role default)
    else node field h.AssignPatProp (binding change 0 x ctxt role ++ default)

-- what its beginning and its name become
abbrev front_made : Around → Option Change → List Item → ℕ → Text → ℕ → Role → List Item
front_made inner change list field x ctxt role = (((list ++ pattern_begin inner field x) ++ h.Open (field_in inner 0) h.BindingIdent ∷ []) ++ renamed change 0 x ctxt role ∷ []) ++ h.Close ∷ []

-- its beginning and its name
front_passes : (tree : List Item) (all : List Change) (list : List Item) (around : Around) (outer : List Around) (field : ℕ) (x : Text) (ctxt : ℕ) (role : Role) (behind : List Item) (changes : List Change) → is_occurrence role ≡ true → HasLeft tree all list around outer (h.Open field h.AssignPatProp ∷ h.Open 0 h.BindingIdent ∷ h.Ident 0 x ctxt role ∷ h.Close ∷ behind) changes → HasLeft tree all (front_made (shorthand_asks (spells_out (next changes)) behind) (next changes) list field x ctxt role) (shorthand_asks (spells_out (next changes)) behind) (outer ++ around ∷ []) behind (drop 1 changes)
front_passes tree all list around outer field x ctxt role behind changes occurs s =
    let inner : Around = shorthand_asks (spells_out (next changes)) behind in
    let property : HasLeft tree all (list ++ pattern_begin inner field x) inner (outer ++ around ∷ []) (h.Open 0 h.BindingIdent ∷ h.Ident 0 x ctxt role ∷ h.Close ∷ behind) changes =
    subst (λ (change : Option Change). HasLeft tree all (list ++ pattern_begin (shorthand_asks (spells_out change) behind) field x) (shorthand_asks (spells_out change) behind) (outer ++ around ∷ []) (h.Open 0 h.BindingIdent ∷ h.Ident 0 x ctxt role ∷ h.Close ∷ behind) changes) (next-is changes)
    (node_begins tree all list around outer field h.AssignPatProp (h.Open 0 h.BindingIdent ∷ h.Ident 0 x ctxt role ∷ h.Close ∷ behind) changes s) in
    let opened : HasLeft tree all ((list ++ pattern_begin inner field x) ++ h.Open (field_in inner 0) h.BindingIdent ∷ []) a.Other ((outer ++ around ∷ []) ++ inner ∷ []) (h.Ident 0 x ctxt role ∷ h.Close ∷ behind) changes =
    node_begins tree all (list ++ pattern_begin inner field x) inner (outer ++ around ∷ []) 0 h.BindingIdent (h.Ident 0 x ctxt role ∷ h.Close ∷ behind) changes property in
    let named : HasLeft tree all (((list ++ pattern_begin inner field x) ++ h.Open (field_in inner 0) h.BindingIdent ∷ []) ++ renamed (next changes) 0 x ctxt role ∷ []) a.Other ((outer ++ around ∷ []) ++ inner ∷ []) (h.Close ∷ behind) (drop 1 changes) =
    same_left tree all a.Other ((outer ++ around ∷ []) ++ inner ∷ []) (drop 1 changes) (ap (λ (made : List Item). ((list ++ pattern_begin inner field x) ++ h.Open (field_in inner 0) h.BindingIdent ∷ []) ++ made) (named_in-other 0 x ctxt role true (next changes))) refl
    (name_changes tree all ((list ++ pattern_begin inner field x) ++ h.Open (field_in inner 0) h.BindingIdent ∷ []) a.Other ((outer ++ around ∷ []) ++ inner ∷ []) 0 x ctxt role (h.Close ∷ behind) changes occurs opened) in
    node_ends tree all (((list ++ pattern_begin inner field x) ++ h.Open (field_in inner 0) h.BindingIdent ∷ []) ++ renamed (next changes) 0 x ctxt role ∷ []) a.Other inner (outer ++ around ∷ []) behind (drop 1 changes) named

-- one list behind the other
six_append : (list one two three four five six : List Item) → (((((list ++ one) ++ two) ++ three) ++ four) ++ five) ++ six ≡ list ++ (one ++ (two ++ (three ++ (four ++ (five ++ six)))))
six_append list one two three four five six = simp append_assoc

five_append : (list one two three four five : List Item) → ((((list ++ one) ++ two) ++ three) ++ four) ++ five ≡ list ++ (one ++ (two ++ (three ++ (four ++ five))))
five_append list one two three four five = simp append_assoc

-- the rebuilding passes a default value
abbrev Passes : List Item → List Change → List Change → List Change → List Item → List Item → Type 0
Passes tree all changes rest default made = (list post : List Item) (asked : Around) (outer : List Around) → Fits Anywhere asked default post → HasLeft tree all list asked outer (default ++ post) changes → HasLeft tree all (list ++ made) asked outer post rest

-- its default and its end, where it stays
stays_short : (tree : List Item) (all : List Change) (list : List Item) (around : Around) (outer : List Around) (field : ℕ) (x : Text) (ctxt : ℕ) (role : Role) (default made post : List Item) (change : Option Change) (changes rest : List Change) → Passes tree all changes rest default made → HasLeft tree all (front_made a.Other change list field x ctxt role) a.Other (outer ++ around ∷ []) (default ++ h.Close ∷ post) changes → HasLeft tree all (list ++ shorthand_as false change field x ctxt role made) around outer post rest
stays_short tree all list around outer field x ctxt role default made post change changes rest passes s =
    same_left tree all around outer rest (six_append list (h.Open field h.AssignPatProp ∷ []) (h.Open 0 h.BindingIdent ∷ []) (renamed change 0 x ctxt role ∷ []) (h.Close ∷ []) made (h.Close ∷ [])) refl
    (node_ends tree all (front_made a.Other change list field x ctxt role ++ made) a.Other around outer post rest
    (passes (front_made a.Other change list field x ctxt role) (h.Close ∷ post) a.Other (outer ++ around ∷ []) in_other s))

-- where it is spelled out, and has no default
spelled_without : (tree : List Item) (all : List Change) (list : List Item) (around : Around) (outer : List Around) (field : ℕ) (x : Text) (ctxt : ℕ) (role : Role) (post : List Item) (change : Option Change) (changes : List Change) → HasLeft tree all (front_made (a.Property false) change list field x ctxt role) (a.Property false) (outer ++ around ∷ []) (h.Close ∷ post) changes → HasLeft tree all (list ++ shorthand_as true change field x ctxt role []) around outer post changes
spelled_without tree all list around outer field x ctxt role post change changes s =
    same_left tree all around outer changes (five_append list (pattern_begin (a.Property false) field x) (h.Open 1 h.BindingIdent ∷ []) (renamed change 0 x ctxt role ∷ []) (h.Close ∷ []) (h.Close ∷ [])) refl
    (node_ends tree all (front_made (a.Property false) change list field x ctxt role) (a.Property false) around outer post changes s)

-- and where it has one
spelled_with : (tree : List Item) (all : List Change) (list : List Item) (around : Around) (outer : List Around) (field : ℕ) (x : Text) (ctxt : ℕ) (role : Role) (default : List Item) (first : Item) (more post : List Item) (change : Option Change) (changes rest : List Change) → Passes tree all changes rest default (first ∷ more) → HasLeft tree all (front_made (a.Property true) change list field x ctxt role) (a.Property true) (outer ++ around ∷ []) (default ++ h.Close ∷ post) changes → HasLeft tree all (list ++ shorthand_as true change field x ctxt role (first ∷ more)) around outer post rest
spelled_with tree all list around outer field x ctxt role default first more post change changes rest passes s =
    let key : List Item = h.Open field h.KeyValuePatProp ∷ h.Open 0 (h.IdentName x) ∷ h.Close ∷ h.Open 1 h.AssignPat ∷ h.Open 0 h.BindingIdent ∷ renamed change 0 x ctxt role ∷ h.Close ∷ first ∷ [] in
    same_left tree all around outer rest
    (six_append list (pattern_begin (a.Property true) field x) (h.Open 0 h.BindingIdent ∷ []) (renamed change 0 x ctxt role ∷ []) (h.Close ∷ []) (first ∷ more) (h.Close ∷ h.Close ∷ [])
    ∙ ap (λ (ends : List Item). list ++ (key ++ ends)) (sym (append_assoc more (h.Close ∷ []) (h.Close ∷ [])))) refl
    (node_ends tree all (front_made (a.Property true) change list field x ctxt role ++ first ∷ more) (a.Property true) around outer post rest
    (passes (front_made (a.Property true) change list field x ctxt role) (h.Close ∷ post) (a.Property true) (outer ++ around ∷ []) as_default s))

-- its default and its end
back_passes : (tree : List Item) (all : List Change) (list : List Item) (around : Around) (outer : List Around) (field : ℕ) (x : Text) (ctxt : ℕ) (role : Role) {default made : List Item} (post : List Item) (is_spelled_out : Bool) (change : Option Change) {changes rest : List Change} → Extent changes rest default made → Passes tree all changes rest default made → HasLeft tree all (front_made (shorthand_asks is_spelled_out (default ++ h.Close ∷ post)) change list field x ctxt role) (shorthand_asks is_spelled_out (default ++ h.Close ∷ post)) (outer ++ around ∷ []) (default ++ h.Close ∷ post) changes → HasLeft tree all (list ++ shorthand_as is_spelled_out change field x ctxt role made) around outer post rest
back_passes tree all list around outer field x ctxt role {default = default} {made = made} post false change {changes = changes} {rest = rest} its_extent passes s = stays_short tree all list around outer field x ctxt role default made post change changes rest passes s
back_passes tree all list around outer field x ctxt role post true change {changes = changes} empty passes s = spelled_without tree all list around outer field x ctxt role post change changes s
back_passes tree all list around outer field x ctxt role post true change {changes = changes} {rest = rest} (full (begun first more no_end) (filled made_first made_more)) passes s =
    spelled_with tree all list around outer field x ctxt role (first ∷ more) made_first made_more post change changes rest passes
    (subst (λ ends. HasLeft tree all (front_made (a.Property (not ends)) change list field x ctxt role) (a.Property (not ends)) (outer ++ around ∷ []) ((first ∷ more) ++ h.Close ∷ post) changes) no_end s)

-- The whole.

-- the rebuilding passes what is edited and makes of it what it becomes; behind it both have the same changes left
passes_edited : {around : Surrounding} {changes rest : List Change} {before after : List Item} → Edits around changes before after rest → (tree : List Item) (all : List Change) (list post : List Item) (asked : Around) (outer : List Around) → Fits around asked before post → HasLeft tree all list asked outer (before ++ post) changes → HasLeft tree all (list ++ after) asked outer post rest
passes_edited {changes = changes} Nothing tree all list post asked outer fits s = same_left tree all asked outer changes (sym (append-nil list)) refl s
passes_edited (Joined {changes = changes} {rest = rest} {first = first} {made_first = made_first} {second = second} {made_second = made_second} one two) tree all list post asked outer fits s =
    same_left tree all asked outer rest (append_assoc list made_first made_second) refl
    (passes_edited two tree all (list ++ made_first) post asked outer (fits_second first second post fits)
    (passes_edited one tree all list (second ++ post) asked outer (fits_first first second post (extent two) fits)
    (same_left tree all asked outer changes refl (append_assoc first second post) s)))
passes_edited {changes = changes} (Hole field) tree all list post asked outer fits s = hole_stays tree all list asked outer field post changes s
passes_edited {changes = changes} (Word field x ctxt role plain) tree all list post asked outer fits s = word_stays tree all list asked outer field x ctxt role post changes plain s
passes_edited (Name around {changes = changes} field x ctxt role occurs) tree all list post asked outer fits s =
    same_left tree all asked outer (drop 1 changes) (ap (λ (made : List Item). list ++ made) (named_in-fits post field x ctxt role (next changes) occurs fits)) refl
    (name_changes tree all list asked outer field x ctxt role post changes occurs s)
passes_edited (Inside {changes = changes} {rest = rest} field head {inside = inside} {made = made} plain one) tree all list post asked outer fits s =
    let elements : List Item = inside ++ h.Close ∷ post in
    let inner : Around = asked_of field head elements changes in
    let opened : HasLeft tree all (list ++ h.Open field head ∷ []) inner (outer ++ asked ∷ []) elements changes =
    same_left tree all inner (outer ++ asked ∷ []) changes (ap (λ (made_here : List Item). list ++ made_here) (begun_in-plain asked inner field head _ inside plain ∙ ap (λ n. h.Open n head ∷ []) (field_in-fits field fits))) refl
    (node_begins tree all list asked outer field head elements changes
    (same_left tree all asked outer changes refl (ap (λ (more : List Item). h.Open field head ∷ more) (append_assoc inside (h.Close ∷ []) post)) s)) in
    let passed : HasLeft tree all ((list ++ h.Open field head ∷ []) ++ made) inner (outer ++ asked ∷ []) (h.Close ∷ post) rest =
    passes_edited one tree all (list ++ h.Open field head ∷ []) (h.Close ∷ post) inner (outer ++ asked ∷ []) (fits_inside head inside post _ _ plain) opened in
    same_left tree all asked outer rest
    (ap (λ (ends : List Item). ((list ++ h.Open field head ∷ []) ++ made) ++ ends) (ended_in-plain head inside _ _ plain)
    ∙ append_assoc (list ++ h.Open field head ∷ []) made (h.Close ∷ [])
    ∙ append_assoc list (h.Open field head ∷ []) (made ++ h.Close ∷ [])) refl
    (node_ends tree all ((list ++ h.Open field head ∷ []) ++ made) inner asked outer post rest passed)
passes_edited (Shorthand {changes = changes} field x ctxt role {default = default} occurs one) tree all list post asked outer fits s =
    back_passes tree all list asked outer field x ctxt role post (spells_out (next changes)) (next changes) (extent one) (passes_edited one tree all)
    (front_passes tree all list asked outer field x ctxt role (default ++ h.Close ∷ post) changes occurs
    (same_left tree all asked outer changes refl (ap (λ (more : List Item). h.Open field h.AssignPatProp ∷ h.Open 0 h.BindingIdent ∷ h.Ident 0 x ctxt role ∷ h.Close ∷ more) (append_assoc default (h.Close ∷ []) post)) s))

-- what a tree becomes by the relation is what the definition makes of it
pub rebuilt_so : {changes : List Change} {before after : List Item} → Edited changes before after → after ≡ rebuilt before changes
rebuilt_so {changes = changes} {before = before} {after = after} edited =
    let start : HasLeft before changes [] a.Other [] (before ++ []) changes = record { place = 0; count = 0; at = at_start before changes; behind = sym (append-nil before); left = refl } in
    let end : HasLeft before changes after a.Other [] [] edited.rest = passes_edited edited.by before changes [] [] a.Other [] in_other start in
    sym (append-nil after) ∙ ap (λ (items : List Item). after ++ rebuilt_from before changes end.place items) (sym end.behind) ∙ end.at.made
