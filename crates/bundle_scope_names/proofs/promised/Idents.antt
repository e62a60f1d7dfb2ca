-- A tree that is made anew has the identifiers of the changes, whatever stands around them.
use Rattle.std.proofs.Common.{◌≡◌, ℕ, suc, ◌+◌, ◌==◌, ◌&&◌, Bool, true, false, List, [], ◌∷◌, ◌++◌, Some, None, map, length, take, slice_get, refl, ap, ap₂, sym, ◌∙◌, arith}
use Rattle.std.specs.Prelude.{bytes_eq, codes, if◌then◌else◌}
use Rattle.std.proofs.lemmas.List.{length-map, length-append}
use Rattle.bundle_syntax.specs.declared.piece.Role.{Role}
use Rattle.bundle_syntax.specs.declared.piece.Role.TheVariants as r
use Rattle.bundle_syntax.specs.Item as h
use Rattle.bundle_syntax.specs.Item.{Item, Head}
use Rattle.bundle_rules.specs.Places.{Around, Spot, past, start, path_at, occurrences_from, occurrences}
use Rattle.bundle_rules.specs.Nodes.{Text}
use Rattle.bundle_rules.specs.Idents.{Ident, ident_of, idents}
use Rattle.bundle_rules.specs.Shorthands.{ends_at, has_default, is_shorthand_in_pattern, is_object, symbol_of}
use Rattle.bundle_rules.specs.Shape.{is_specifier}
use Rattle.bundle_rules.specs.Rebuilds.{Change, change_at, is_key_spelled_out, plain_key, key_in_object, pattern_front, new_begin, new_end, new_occurrence, new_item, rebuilt_from, rebuilt, changes_to, with_idents}
use Rattle.bundle_tree_places.proofs.ListLemmas.{take_at}

-- the identifiers of a list, element by element
abbrev pub names_in : List Item → List Ident
names_in [] = []
names_in (h.Ident field x ctxt r.Word ∷ rest) = names_in rest
names_in (h.Ident field x ctxt role ∷ rest) = (x, ctxt) ∷ names_in rest
names_in (h.Open field head ∷ rest) = names_in rest
names_in (h.Hole field ∷ rest) = names_in rest
names_in (h.Close ∷ rest) = names_in rest

names-append : (xs ys : List Item) → names_in (xs ++ ys) ≡ names_in xs ++ names_in ys
names-append [] ys = refl
names-append (h.Ident field x ctxt r.Word ∷ xs) ys = names-append xs ys
names-append (h.Ident field x ctxt r.Binding ∷ xs) ys = ap (λ more. (x, ctxt) ∷ more) (names-append xs ys)
names-append (h.Ident field x ctxt r.Reference ∷ xs) ys = ap (λ more. (x, ctxt) ∷ more) (names-append xs ys)
names-append (h.Open field head ∷ xs) ys = names-append xs ys
names-append (h.Hole field ∷ xs) ys = names-append xs ys
names-append (h.Close ∷ xs) ys = names-append xs ys

names-from : (spot : Spot) (items : List Item) → map ident_of (occurrences_from spot items) ≡ names_in items
names-from spot [] = refl
names-from spot (h.Ident field x ctxt r.Word ∷ rest) = names-from (past spot (h.Ident field x ctxt r.Word)) rest
names-from spot (h.Ident field x ctxt r.Binding ∷ rest) = ap (λ more. (x, ctxt) ∷ more) (names-from (past spot (h.Ident field x ctxt r.Binding)) rest)
names-from spot (h.Ident field x ctxt r.Reference ∷ rest) = ap (λ more. (x, ctxt) ∷ more) (names-from (past spot (h.Ident field x ctxt r.Reference)) rest)
names-from spot (h.Open field head ∷ rest) = names-from (past spot (h.Open field head)) rest
names-from spot (h.Hole field ∷ rest) = names-from (past spot (h.Hole field)) rest
names-from spot (h.Close ∷ rest) = names-from (past spot h.Close) rest

-- they are those of its occurrences
pub idents-are : (items : List Item) → idents items ≡ names_in items
idents-are items = names-from start items

length-names : (items : List Item) → length (occurrences items) ≡ length (names_in items)
length-names items = sym (length-map (occurrences items) ident_of) ∙ ap length (idents-are items)

-- What is made of one element.

-- a node begins
begin-names : (tree : List Item) (changes : List Change) (place field : ℕ) (around : List Around) (head : Head) → names_in (new_begin tree changes place field around head) ≡ []
begin-names tree changes place field around h.AssignPatProp = by_spelled (is_key_spelled_out tree changes place) (has_default tree place)
  where
    by_spelled : (b d : Bool) → names_in (if b then pattern_front field (symbol_of (slice_get tree (place + 2))) d else h.Open field h.AssignPatProp ∷ []) ≡ []
    by_spelled true true = refl
    by_spelled true false = refl
    by_spelled false d = refl
begin-names tree changes place field [] _ = refl
begin-names tree changes place field (node ∷ outer) head = by_spelled (is_shorthand_in_pattern node.head && node.field == 0 && is_key_spelled_out tree changes node.begins)
  where
    by_spelled : (b : Bool) → names_in (if b then h.Open (if has_default tree node.begins then 0 else 1) head ∷ [] else h.Open field head ∷ []) ≡ []
    by_spelled true = refl
    by_spelled false = refl

-- a node ends
end-names : (tree : List Item) (changes : List Change) (around : List Around) → names_in (new_end tree changes around) ≡ []
end-names tree changes [] = refl
end-names tree changes (node ∷ outer) = by_spelled (is_shorthand_in_pattern node.head && has_default tree node.begins && is_key_spelled_out tree changes node.begins)
  where
    by_spelled : (b : Bool) → names_in (if b then h.Close ∷ h.Close ∷ [] else h.Close ∷ []) ≡ []
    by_spelled true = refl
    by_spelled false = refl

-- an occurrence
abbrev occurs : Role → Bool
occurs r.Word = false
occurs _ = true

name-names : (field : ℕ) (new : Ident) (role : Role) (rest : List Item) → occurs role ≡ true → names_in (h.Ident field new.0 new.1 role ∷ rest) ≡ new ∷ names_in rest
name-names field new r.Word rest is = absurd cc
name-names field new r.Binding rest is = refl
name-names field new r.Reference rest is = refl

pair-names : (b : Bool) (field : ℕ) (x : Text) (new : Ident) (role : Role) → occurs role ≡ true → names_in (h.Open field h.KeyValueProp ∷ ((if b then h.Open 0 h.ComputedPropName ∷ h.Open 0 (h.Str x None) ∷ h.Close ∷ h.Close ∷ [] else plain_key x) ++ h.Ident 1 new.0 new.1 role ∷ h.Close ∷ [])) ≡ new ∷ []
pair-names true field x new role is = name-names 1 new role (h.Close ∷ []) is
pair-names false field x new role is = name-names 1 new role (h.Close ∷ []) is

occurrence-names : (field : ℕ) (around : List Around) (is_last : Bool) (x : Text) (ctxt : ℕ) (role : Role) (change : Change) → occurs role ≡ true → names_in (new_occurrence field around is_last x ctxt role (Some change)) ≡ change.ident ∷ []
occurrence-names field [] is_last x ctxt role change is = name-names field change.ident role [] is
occurrence-names field (node ∷ outer) is_last x ctxt role change is = by_spelled change.is_spelled_out (is_object node.head) (is_specifier node.head && is_last)
  where
    by_spelled : (b o s : Bool) → names_in (if b then (if o then h.Open field h.KeyValueProp ∷ (key_in_object x ++ h.Ident 1 change.ident.0 change.ident.1 role ∷ h.Close ∷ []) else (if s then h.Ident field change.ident.0 change.ident.1 role ∷ h.Ident 1 x 0 r.Word ∷ [] else h.Ident field change.ident.0 change.ident.1 role ∷ [])) else h.Ident field change.ident.0 change.ident.1 role ∷ []) ≡ change.ident ∷ []
    by_spelled true true s = pair-names (bytes_eq x (codes "__proto__")) field x change.ident role is
    by_spelled true false true = name-names field change.ident role (h.Ident 1 x 0 r.Word ∷ []) is
    by_spelled true false false = name-names field change.ident role [] is
    by_spelled false o s = name-names field change.ident role [] is

-- Lists, from a place on.

-- these stand in the list from this place on
abbrev IsBehind : {A : Type 0} → List A → ℕ → List A → Type 0
IsBehind whole place rest = (k : ℕ) → slice_get whole (place + k) ≡ slice_get rest k

here : {A : Type 0} (whole : List A) (place : ℕ) (x : A) (rest : List A) → IsBehind whole place (x ∷ rest) → slice_get whole place ≡ Some x
here whole place x rest behind = let n : place ≡ place + 0 = omega arith in ap (slice_get whole) n ∙ behind 0

next : {A : Type 0} (whole : List A) (place : ℕ) (x : A) (rest : List A) → IsBehind whole place (x ∷ rest) → IsBehind whole (suc place) rest
next whole place x rest behind k = let n : suc place + k ≡ place + suc k = omega arith in ap (slice_get whole) n ∙ behind (suc k)

-- one element more before a place
counted : (tree : List Item) (place : ℕ) (x : Item) → slice_get tree place ≡ Some x → length (names_in (take (suc place) tree)) ≡ length (names_in (take place tree)) + length (names_in (x ∷ []))
counted tree place x at = ap (λ l. length (names_in l)) (take_at tree place x at) ∙ ap length (names-append (take place tree) (x ∷ [])) ∙ length-append (names_in (take place tree)) (names_in (x ∷ []))

-- the identifier of a change
abbrev pub new_ident : Change → Ident
new_ident change = change.ident

module _ (tree : List Item) (changes : List Change) where
  -- where so many occurrences stand before a place, and as many changes are left as occurrences from there on
  record IsAt (place n : ℕ) (rest : List Item) (left : List Change) : Type 0 where
    behind : IsBehind tree place rest
    before : n ≡ length (names_in (take place tree))
    later : IsBehind changes n left
    many : length left ≡ length (names_in rest)

  silent : (place n : ℕ) (x : Item) (rest : List Item) (left : List Change) → names_in (x ∷ []) ≡ [] → IsAt place n (x ∷ rest) left → IsAt (suc place) n rest left
  silent place n x rest left none at =
      let more = counted tree place x (here tree place x rest at.behind) in
      let zero_is : length (names_in (x ∷ [])) ≡ 0 = ap length none in
      let same = at.before in
      record {
        behind = next tree place x rest at.behind;
        before = omega (arith, more, zero_is, same);
        later = at.later;
        many = at.many ∙ ap length (names-append (x ∷ []) rest ∙ ap (λ l. l ++ names_in rest) none);
      }

  named : (place n : ℕ) (x : Item) (rest : List Item) (change : Change) (left : List Change) (name : Ident) → names_in (x ∷ []) ≡ name ∷ [] → IsAt place n (x ∷ rest) (change ∷ left) → IsAt (suc place) (suc n) rest left
  named place n x rest change left name some at =
      let more = counted tree place x (here tree place x rest at.behind) in
      let one_is : length (names_in (x ∷ [])) ≡ 1 = ap length some in
      let same = at.before in
      let lengths : suc (length left) ≡ suc (length (names_in rest)) = at.many ∙ ap length (names-append (x ∷ []) rest ∙ ap (λ l. l ++ names_in rest) some) in
      record {
        behind = next tree place x rest at.behind;
        before = omega (arith, more, one_is, same);
        later = next changes n change left at.later;
        many = omega (arith, lengths);
      }

  change-is : (place n : ℕ) (rest : List Item) (change : Change) (left : List Change) → IsAt place n rest (change ∷ left) → change_at tree changes place ≡ Some change
  change-is place n rest change left at = ap (slice_get changes) (length-names (take place tree) ∙ sym at.before) ∙ here changes n change left at.later

  joined : (made rest : List Item) (names more : List Ident) → names_in made ≡ names → names_in rest ≡ more → names_in (made ++ rest) ≡ names ++ more
  joined made rest names more one two = names-append made rest ∙ ap₂ (λ (a b : List Ident). a ++ b) one two

  made-from : (rest : List Item) (place n : ℕ) (left : List Change) → IsAt place n rest left → names_in (rebuilt_from tree changes place rest) ≡ map new_ident left
  made-from [] place n [] at = refl
  made-from [] place n (change ∷ left) at = let e = at.many in absurd (omega (arith, e))
  made-from (h.Open field head ∷ rest) place n left at = joined (new_item tree changes place (path_at tree place) (h.Open field head)) (rebuilt_from tree changes (suc place) rest) [] (map new_ident left) (begin-names tree changes place field (path_at tree place) head) (made-from rest (suc place) n left (silent place n (h.Open field head) rest left refl at))
  made-from (h.Hole field ∷ rest) place n left at = made-from rest (suc place) n left (silent place n (h.Hole field) rest left refl at)
  made-from (h.Close ∷ rest) place n left at = joined (new_item tree changes place (path_at tree place) h.Close) (rebuilt_from tree changes (suc place) rest) [] (map new_ident left) (end-names tree changes (path_at tree place)) (made-from rest (suc place) n left (silent place n h.Close rest left refl at))
  made-from (h.Ident field x ctxt r.Word ∷ rest) place n left at = made-from rest (suc place) n left (silent place n (h.Ident field x ctxt r.Word) rest left refl at)
  made-from (h.Ident field x ctxt r.Binding ∷ rest) place n [] at = let e = at.many in absurd (omega (arith, e))
  made-from (h.Ident field x ctxt r.Reference ∷ rest) place n [] at = let e = at.many in absurd (omega (arith, e))
  made-from (h.Ident field x ctxt r.Binding ∷ rest) place n (change ∷ left) at =
      joined (new_item tree changes place (path_at tree place) (h.Ident field x ctxt r.Binding)) (rebuilt_from tree changes (suc place) rest) (change.ident ∷ []) (map new_ident left)
      (ap (λ o. names_in (new_occurrence field (path_at tree place) (ends_at (slice_get tree (suc place))) x ctxt r.Binding o)) (change-is place n (h.Ident field x ctxt r.Binding ∷ rest) change left at) ∙ occurrence-names field (path_at tree place) (ends_at (slice_get tree (suc place))) x ctxt r.Binding change refl)
      (made-from rest (suc place) (suc n) left (named place n (h.Ident field x ctxt r.Binding) rest change left (x, ctxt) refl at))
  made-from (h.Ident field x ctxt r.Reference ∷ rest) place n (change ∷ left) at =
      joined (new_item tree changes place (path_at tree place) (h.Ident field x ctxt r.Reference)) (rebuilt_from tree changes (suc place) rest) (change.ident ∷ []) (map new_ident left)
      (ap (λ o. names_in (new_occurrence field (path_at tree place) (ends_at (slice_get tree (suc place))) x ctxt r.Reference o)) (change-is place n (h.Ident field x ctxt r.Reference ∷ rest) change left at) ∙ occurrence-names field (path_at tree place) (ends_at (slice_get tree (suc place))) x ctxt r.Reference change refl)
      (made-from rest (suc place) (suc n) left (named place n (h.Ident field x ctxt r.Reference) rest change left (x, ctxt) refl at))

-- a tree with as many changes as occurrences has their identifiers
pub idents-rebuilt : (tree : List Item) (changes : List Change) → length changes ≡ length (idents tree) → idents (rebuilt tree changes) ≡ map new_ident changes
idents-rebuilt tree changes many = idents-are (rebuilt tree changes) ∙ made-from tree changes tree 0 0 changes (record {
  behind = λ k. let n : 0 + k ≡ k = omega arith in ap (slice_get tree) n;
  before = refl;
  later = λ k. let n : 0 + k ≡ k = omega arith in ap (slice_get changes) n;
  many = many ∙ ap length (idents-are tree);
})

-- the changes to other identifiers
pub changes-many : (olds news : List Ident) → length news ≡ length olds → length (changes_to olds news) ≡ length olds
changes-many [] news e = refl
changes-many (old ∷ olds) [] e = absurd (omega (arith, e))
changes-many (old ∷ olds) (new ∷ news) e = let rest : length news ≡ length olds = omega (arith, e) in ap suc (changes-many olds news rest)

changes-idents : (olds news : List Ident) → length news ≡ length olds → map new_ident (changes_to olds news) ≡ news
changes-idents [] [] e = refl
changes-idents [] (new ∷ news) e = absurd (omega (arith, e))
changes-idents (old ∷ olds) [] e = absurd (omega (arith, e))
changes-idents (old ∷ olds) (new ∷ news) e = let rest : length news ≡ length olds = omega (arith, e) in ap (λ l. new ∷ l) (changes-idents olds news rest)

-- a tree with as many identifiers as occurrences has these
pub idents-given : (tree : List Item) (news : List Ident) → length news ≡ length (idents tree) → idents (with_idents tree news) ≡ news
idents-given tree news e = idents-rebuilt tree (changes_to (idents tree) news) (changes-many (idents tree) news e) ∙ changes-idents (idents tree) news e
