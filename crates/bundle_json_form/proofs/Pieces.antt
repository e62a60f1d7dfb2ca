-- The text that is put in for a tree, piece by piece.
use Rattle.std.proofs.Common.{◌≡◌, ℕ, ◌==◌, ◌+◌, ◌<◌, ◌≤◌, List, [], ◌∷◌, ◌++◌, Bool, true, false, Some, None, map, length, get_or, refl, sym, ap, ◌∙◌, subst, append_assoc, append-nil, arith}
use Rattle.std.proofs.lemmas.List.{drop_more, drop_all}
use Rattle.bundle_syntax.specs.declared.piece.Piece.{Piece}
use Rattle.json.specs.Print.{quoted}
use Rattle.serde_json.specs.Data.{Items, item}
use Rattle.serde_json.specs.Written.{compact_text, items_text, members_text, comma_if}
use Rattle.bundle_syntax.specs.Item as h
use Rattle.bundle_syntax.specs.Item.{Item, Head, item_of}
use Rattle.bundle_json_form.specs.declared.layout.Shape.TheVariants as s
use Rattle.bundle_json_form.specs.Form.{Tree, ident, hole, node, tree_items, node_fields, fields_items, written, IsLaidOut}
use Rattle.bundle_json_form.specs.Plan as p
use Rattle.bundle_json_form.specs.Plan.{plan}
use Rattle.bundle_json_form.specs.Texts.{from, AppendsForm, AppendsFirst, AppendsContent, AppendsField, AppendsObject, NodeChild, children_items, AreLaidOut, HasInside, written_in, datum, filled, field_of_first, IsAfterFirst, IsFirstNode, HasNoneIn}
use Rattle.bundle_json_form.proofs.Places.{children, children-items, children-laid, filled-plan}

-- the element at a place
pub from_next : (pieces : List Piece) (at : ℕ) (it : Piece) → at < length pieces
    → from at pieces ≡ item_of (get_or pieces at it) ∷ from (at + 1) pieces
from_next pieces at it within = ap (map item_of) (drop_more pieces at it within)

pub piece_at : (pieces : List Piece) (at : ℕ) (it : Piece) → at < length pieces → it ≡ get_or pieces at it
    → from at pieces ≡ item_of it ∷ from (at + 1) pieces
piece_at pieces at it within is =
    from_next pieces at it within ∙ ap (λ x. item_of x ∷ from (at + 1) pieces) (sym is)

pub from_end : (pieces : List Piece) (at : ℕ) → length pieces ≤ at → from at pieces ≡ []
from_end pieces at past = ap (map item_of) (drop_all at pieces past)

pub form_is : (items : List Item) (old new : List ℕ) → AppendsFirst items old new
    → AppendsForm items old new
form_is items old new puts field it listed laid =
    puts field it [] (listed ∙ sym (append-nil (tree_items field it))) laid

-- The first piece.

pub node_first : (items inside : List Item) (field : ℕ) (head : Head) (old new : List ℕ)
    → items ≡ h.Open field head ∷ inside → AppendsObject (plan head) inside old new
    → AppendsFirst items old new
node_first items inside field head old new is puts number (ident sym ctxt role) rest listed laid = cc
node_first items inside field head old new is puts number hole rest listed laid = cc
node_first items inside field head old new is puts number (node other inner) rest listed laid =
    let same : head ≡ other = cc in
    let within : inside ≡ (fields_items inner ++ h.Close ∷ []) ++ rest = cc in
    let has : HasInside inside (children inner) rest = record {
      listed = within ∙ append_assoc (fields_items inner) (h.Close ∷ []) rest
          ∙ ap (λ them. them ++ h.Close ∷ rest) (sym (children-items inner));
      laid = children-laid (node_fields other) inner laid;
    } in
    subst (λ it. AppendsObject (plan it) inside old new) same puts (children inner) rest has
    ∙ ap (λ d. old ++ compact_text d) (filled-plan other inner laid)

-- The members of an object.

-- what has been put in, and what is still to be put in, is the whole
pub record AreMembers (inside : List Item) (old text : List ℕ) (whole left : List p.Member) (later : Bool) : Type 0 where
  pub so_far : (them : List NodeChild) (rest : List Item) → HasInside inside them rest
      → text ++ members_text later (filled them left) ≡ old ++ members_text false (filled them whole)

pub one_member : (inside : List Item) (old text named new : List ℕ) (whole left more : List p.Member) (later : Bool) (it : p.Member)
    → AreMembers inside old text whole left later → left ≡ it ∷ more
    → named ≡ text ++ comma_if later ++ quoted it.0 ++ 58 ∷ [] → AppendsContent it.1 inside named new
    → AreMembers inside old new whole more true
one_member inside old text named new whole left more later it before next key content = record {
  so_far = λ them rest has.
      ap (λ l. l ++ members_text true (filled them more)) (content them rest has ∙ ap (λ l. l ++ compact_text (datum them it.1)) key)
      ∙ regroup text (comma_if later) (quoted it.0) (compact_text (datum them it.1)) (members_text true (filled them more))
      ∙ ap (λ l. text ++ members_text later (filled them l)) (sym next)
      ∙ before.so_far them rest has;
}
  where
    regroup : (a b c d e : List ℕ) → ((a ++ b ++ c ++ 58 ∷ []) ++ d) ++ e ≡ a ++ (b ++ (c ++ 58 ∷ (d ++ e)))
    regroup a b c d e = simp append_assoc

-- The nodes of a list.

first_is : (field : ℕ) (it : Tree) (more : List Item) → field_of_first (tree_items field it ++ more) ≡ Some field
first_is field (ident sym ctxt role) more = refl
first_is field hole more = refl
first_is field (node head inner) more = refl

-- the children that are left, and the first of them
pub record FirstLeft (field : ℕ) (items : List Item) (them : List NodeChild) (rest : List Item) : Type 0 where
  pub it : Tree
  pub more : List NodeChild
  pub is : them ≡ (field, it) ∷ more
  pub listed : items ≡ tree_items field it ++ (children_items more ++ h.Close ∷ rest)
  pub laid : IsLaidOut it
  pub others : AreLaidOut more

-- a field begins where a child is left
pub first_left : (field : ℕ) (items : List Item) (them : List NodeChild) (rest : List Item)
    → Some field ≡ field_of_first items → HasInside items them rest → FirstLeft field items them rest
first_left field items [] rest some has = cc
  where
    none : field_of_first items ≡ None
    none = ap field_of_first has.listed
first_left field items (it ∷ more) rest some has =
    let listed : items ≡ tree_items it.0 it.1 ++ (children_items more ++ h.Close ∷ rest)
    = has.listed ∙ append_assoc (tree_items it.0 it.1) (children_items more) (h.Close ∷ rest) in
    let same : it.0 ≡ field = some_same (sym (first_is it.0 it.1 (children_items more ++ h.Close ∷ rest)) ∙ ap field_of_first (sym listed) ∙ sym some) in
    record {
      it = it.1;
      more = more;
      is = ap (λ n. (n, it.1) ∷ more) same;
      listed = listed ∙ ap (λ n. tree_items n it.1 ++ (children_items more ++ h.Close ∷ rest)) same;
      laid = has.laid.0;
      others = has.laid.1;
    }
  where
    some_same : {a b : ℕ} → Some a ≡ Some b → a ≡ b
    some_same e = cc

-- what follows it has those that are left then
pub next_left : (field : ℕ) (items after : List Item) (them : List NodeChild) (rest : List Item)
    → (first : FirstLeft field items them rest) → IsAfterFirst items after → HasInside after first.more rest
next_left field items after them rest first follows = record {
  listed = follows field first.it (children_items first.more ++ h.Close ∷ rest) first.listed;
  laid = first.others;
}

-- no child is left where no field begins
pub none_left : (items : List Item) (them : List NodeChild) (rest : List Item)
    → None ≡ field_of_first items → HasInside items them rest → them ≡ []
none_left items [] rest none has = refl
none_left items (it ∷ more) rest none has =
    let listed : items ≡ tree_items it.0 it.1 ++ (children_items more ++ h.Close ∷ rest)
    = has.listed ∙ append_assoc (tree_items it.0 it.1) (children_items more) (h.Close ∷ rest) in
    let some : field_of_first items ≡ Some it.0 = ap field_of_first listed ∙ first_is it.0 it.1 (children_items more ++ h.Close ∷ rest) in
    cc

-- for the children of a node these are left, and with the text so far they give the text of all
pub record ListLeft (number : ℕ) (items : List Item) (rest : List Item) (whole text : List ℕ) (later : Bool) : Type 0 where
  pub them : List NodeChild
  pub has : HasInside items them rest
  pub so_far : text ++ items_text later (written_in number them) ≡ whole

abbrev pub ListsLeft : ℕ → List Item → List ℕ → List Item → List ℕ → Bool → Type 0
ListsLeft number inside old items text later =
    (them : List NodeChild) (rest : List Item) → HasInside inside them rest
    → ListLeft number items rest (old ++ items_text false (written_in number them)) text later

-- a child of another field is passed over
pub passed : (number field : ℕ) (inside items after : List Item) (old text : List ℕ) (later : Bool)
    → (field ≡ number → ⊥) → Some field ≡ field_of_first items → IsAfterFirst items after
    → ListsLeft number inside old items text later → ListsLeft number inside old after text later
passed number field inside items after old text later other some follows before them rest has =
    let left = before them rest has in
    let first = first_left field items left.them rest some left.has in
    record {
      them = first.more;
      has = next_left field items after left.them rest first follows;
      so_far = ap (λ ds. text ++ items_text later ds) (sym (skipped first.more first.it) ∙ ap (written_in number) (sym first.is)) ∙ left.so_far;
    }
  where
    skipped : (more : List NodeChild) (it : Tree) → written_in number ((field, it) ∷ more) ≡ written_in number more
    skipped more it = let e : (field == number) ≡ false = grind arith in rw e refl

-- a child of the field is put in
pub put_one : (number field : ℕ) (inside items after : List Item) (old text begun new : List ℕ) (later : Bool)
    → field ≡ number → Some field ≡ field_of_first items → begun ≡ text ++ comma_if later
    → AppendsFirst items begun new → IsAfterFirst items after
    → ListsLeft number inside old items text later → ListsLeft number inside old after new true
put_one number field inside items after old text begun new later same some comma puts follows before them rest has =
    let left = before them rest has in
    let first = first_left field items left.them rest some left.has in
    let more = written_in number first.more in
    record {
      them = first.more;
      has = next_left field items after left.them rest first follows;
      so_far = ap (λ l. l ++ items_text true more)
          (puts field first.it (children_items first.more ++ h.Close ∷ rest) first.listed first.laid ∙ ap (λ l. l ++ compact_text (written first.it)) comma)
          ∙ regroup text (comma_if later) (compact_text (written first.it)) (items_text true more)
          ∙ ap (λ ds. text ++ items_text later ds) (sym (taken first.more first.it) ∙ ap (written_in number) (sym first.is))
          ∙ left.so_far;
    }
  where
    taken : (more : List NodeChild) (it : Tree) → written_in number ((field, it) ∷ more) ≡ item (written it) (written_in number more)
    taken more it = let e : (field == number) ≡ true = grind arith in rw e refl

    regroup : (a b c d : List ℕ) → ((a ++ b) ++ c) ++ d ≡ a ++ (b ++ (c ++ d))
    regroup a b c d = simp append_assoc

pub list_is : (number : ℕ) (inside items : List Item) (old opened text new : List ℕ) (later : Bool)
    → opened ≡ old ++ 91 ∷ [] → ListsLeft number inside opened items text later → None ≡ field_of_first items
    → new ≡ text ++ 93 ∷ [] → AppendsField s.List number inside old new
list_is number inside items old opened text new later begun before none ended them rest has =
    let left = before them rest has in
    let over : left.them ≡ [] = none_left items left.them rest none left.has in
    ended
    ∙ ap (λ cs. text ++ items_text later (written_in number cs)) (sym over)
    ∙ left.so_far
    ∙ ap (λ l. l ++ items_text false (written_in number them)) begun
    ∙ append_assoc old (91 ∷ []) (items_text false (written_in number them))

-- The first of the nodes in a field.

-- for the children of a node these are left, and none before them is in the field
pub record FindLeft (number : ℕ) (items : List Item) (rest : List Item) (whole : Items) : Type 0 where
  pub them : List NodeChild
  pub has : HasInside items them rest
  pub so_far : written_in number them ≡ whole

abbrev pub FindsLeft : ℕ → List Item → List Item → Type 0
FindsLeft number inside items =
    (them : List NodeChild) (rest : List Item) → HasInside inside them rest
    → FindLeft number items rest (written_in number them)

pub passed_one : (number field : ℕ) (inside items after : List Item)
    → (field ≡ number → ⊥) → Some field ≡ field_of_first items → IsAfterFirst items after
    → FindsLeft number inside items → FindsLeft number inside after
passed_one number field inside items after other some follows before them rest has =
    let left = before them rest has in
    let first = first_left field items left.them rest some left.has in
    record {
      them = first.more;
      has = next_left field items after left.them rest first follows;
      so_far = sym (skipped first.more first.it) ∙ ap (written_in number) (sym first.is) ∙ left.so_far;
    }
  where
    skipped : (more : List NodeChild) (it : Tree) → written_in number ((field, it) ∷ more) ≡ written_in number more
    skipped more it = let e : (field == number) ≡ false = grind arith in rw e refl

pub found_one : (number field : ℕ) (inside items : List Item) → field ≡ number → Some field ≡ field_of_first items
    → FindsLeft number inside items → IsFirstNode number inside items
found_one number field inside items same some before them rest has =
    let left = before them rest has in
    let first = first_left field items left.them rest some left.has in
    record {
      it = first.it;
      more = children_items first.more ++ h.Close ∷ rest;
      listed = first.listed ∙ ap (λ n. tree_items n first.it ++ (children_items first.more ++ h.Close ∷ rest)) same;
      laid = first.laid;
      others = written_in number first.more;
      first = sym left.so_far ∙ ap (written_in number) first.is ∙ taken first.more first.it;
    }
  where
    taken : (more : List NodeChild) (it : Tree) → written_in number ((field, it) ∷ more) ≡ item (written it) (written_in number more)
    taken more it = let e : (field == number) ≡ true = grind arith in rw e refl

pub found_none : (number : ℕ) (inside items : List Item) → None ≡ field_of_first items
    → FindsLeft number inside items → HasNoneIn number inside
found_none number inside items none before them rest has =
    let left = before them rest has in
    sym left.so_far ∙ ap (written_in number) (none_left items left.them rest none left.has)
