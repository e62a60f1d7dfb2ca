-- Where the member of a key stands among others.
-- The members that are planned, filled with a node's children, are those of the node's form.
use Rattle.std.proofs.Common.{◌≡◌, ℕ, ◌+◌, ◌<◌, List, [], ◌∷◌, ◌++◌, map, take, drop, set, get_or, length, add-one, Ordering, Less, Equal, Greater, nat_cmp, refl, sym, ap, ap₂, ◌∙◌, append_assoc, arith, ◌==◌, false, Some, None, codes, subst}
use Rattle.std.specs.Cmp.Lexicographic.{slice_cmp}
use Rattle.std.specs.Ordering.{match_ordering, ordering_then, MatchOrdering}
use Rattle.std.proofs.lemmas.Cmp.{ranked}
use Rattle.std.proofs.lemmas.List.{drop_more, drop-map, take-map, map_more, map-set, map-append, set_split, length-map}
use Rattle.serde_json.specs.Data as v
use Rattle.serde_json.specs.Data.{object, no_items, item, member}
use Rattle.bundle_syntax.specs.Item.{Head}
use Rattle.bundle_json_form.specs.Plan.{Content, content_of, Member, member_of, planned, put_member, IsMemberAt, BelongsAt, a_text, a_truth, nothing, nodes, put_scalar, put_scalars, put_fields, plan}
use Rattle.bundle_json_form.specs.Form as f
use Rattle.bundle_json_form.specs.Form.{Field, node_fields, name, Scalar, text, optional_text, truth, given, scalars, node, Fields, no_fields, in_field, Trees, no_trees, tree, tree_items, fields_items, trees_items, in_shape, with_scalar, with_scalars, with_fields, written, each_written, IsLaidOut, EachLaidOut}
use Rattle.bundle_json_form.specs.Texts.{NodeChild, children_items, AreLaidOut, written_in, datum, filled}
use Rattle.bundle_json_form.proofs.Run.{OtherThan, Distinct, distinct, same_number}
use Rattle.bundle_json_form.specs.declared.plan.Member as r_member

-- ---- places

-- as far as this place the keys are below the key
abbrev pub AreBelow : List ℕ → List Member → ℕ → Type 0
AreBelow key members place =
    (it : Content) → put_member key it members ≡ take place members ++ put_member key it (drop place members)

-- texts that are found equal are
same_texts : (x y : List ℕ) → slice_cmp nat_cmp x y ≡ Equal → x ≡ y
same_texts [] [] is = refl
same_texts [] (b ∷ y) is = cc
same_texts (a ∷ x) [] is = cc
same_texts (a ∷ x) (b ∷ y) is = by (nat_cmp a b) (ranked a b (nat_cmp a b) refl) is (same_texts x y)
  where
    by : (o : Ordering) → MatchOrdering o (a < b) (a ≡ b) (b < a) → ordering_then o (slice_cmp nat_cmp x y) ≡ Equal
        → (slice_cmp nat_cmp x y ≡ Equal → x ≡ y) → a ∷ x ≡ b ∷ y
    by Less first is more = cc
    by Equal first is more = ap₂ (λ c z. c ∷ z) first (more is)
    by Greater first is more = cc

put_by : (o : Ordering) (key : List ℕ) (it : Content) (first : Member) (more : List Member)
    → slice_cmp nat_cmp key first.0 ≡ o
    → put_member key it (first ∷ more)
    ≡ match_ordering o ((key, it) ∷ first ∷ more) ((first.0, it) ∷ more) (first ∷ put_member key it more)
put_by o key it first more is = ap (λ x. match_ordering x ((key, it) ∷ first ∷ more) ((first.0, it) ∷ more) (first ∷ put_member key it more)) is

-- one more key is below the key
pub below_more : (key : List ℕ) (members : List Member) (place : ℕ) (first : Member)
    → drop place members ≡ first ∷ drop (place + 1) members
    → take (place + 1) members ≡ take place members ++ first ∷ []
    → slice_cmp nat_cmp key first.0 ≡ Greater
    → AreBelow key members place → AreBelow key members (place + 1)
below_more key members place first next front is below it =
    below it
    ∙ ap (λ more. take place members ++ put_member key it more) next
    ∙ ap (λ more. take place members ++ more) (put_by Greater key it first (drop (place + 1) members) is)
    ∙ sym (append_assoc (take place members) (first ∷ []) (put_member key it (drop (place + 1) members)))
    ∙ ap (λ before. before ++ put_member key it (drop (place + 1) members)) (sym front)

pub belongs_at : (key : List ℕ) (members : List Member) (place : ℕ) (first : Member)
    → place < length members → drop place members ≡ first ∷ drop (place + 1) members
    → slice_cmp nat_cmp key first.0 ≡ Less
    → AreBelow key members place → BelongsAt key members place
belongs_at key members place first within next is below = record {
  within = omega (arith, within);
  put_in = λ it. below it
      ∙ ap (λ more. take place members ++ put_member key it more) next
      ∙ ap (λ more. take place members ++ more) (put_by Less key it first (drop (place + 1) members) is)
      ∙ ap (λ more. take place members ++ (key, it) ∷ more) (sym next);
}

pub stands_at : (key : List ℕ) (members : List Member) (place : ℕ) (first : Member)
    → place < length members → drop place members ≡ first ∷ drop (place + 1) members
    → slice_cmp nat_cmp key first.0 ≡ Equal
    → AreBelow key members place → IsMemberAt key members place
stands_at key members place first within next is below = record {
  within = within;
  put_in = λ it. below it
      ∙ ap (λ more. take place members ++ put_member key it more) next
      ∙ ap (λ more. take place members ++ more) (put_by Equal key it first (drop (place + 1) members) is)
      ∙ ap (λ k. take place members ++ (k, it) ∷ drop (place + 1) members) (sym (same_texts key first.0 is))
      ∙ ap (λ n. take place members ++ (key, it) ∷ drop n members) (add-one place)
      ∙ sym (set_split members place (key, it) within);
}

-- The members as the code has them.

pub next_member : (them : List r_member.Member) (place : ℕ) (it : r_member.Member) → place < length them
    → drop place (planned them) ≡ member_of (get_or them place it) ∷ drop (place + 1) (planned them)
next_member them place it within =
    drop-map member_of place them
    ∙ ap (map member_of) (drop_more them place it within)
    ∙ ap (λ more. member_of (get_or them place it) ∷ more) (sym (drop-map member_of (place + 1) them))

pub front_member : (them : List r_member.Member) (place : ℕ) (it : r_member.Member) → place < length them
    → take (place + 1) (planned them) ≡ take place (planned them) ++ member_of (get_or them place it) ∷ []
front_member them place it within =
    take-map member_of (place + 1) them
    ∙ map_more member_of them place it within
    ∙ ap (λ front. front ++ member_of (get_or them place it) ∷ []) (sym (take-map member_of place them))

pub set_member : (them : List r_member.Member) (place : ℕ) (it : r_member.Member)
    → IsMemberAt it.key.now (planned them) place
    → planned (set them place it) ≡ put_member it.key.now (content_of it.content) (planned them)
set_member them place it stands = map-set member_of them place it ∙ sym (stands.put_in (content_of it.content))

pub insert_member : (them new : List r_member.Member) (place : ℕ) (it : r_member.Member)
    → BelongsAt it.key.now (planned them) place → new ≡ take place them ++ it ∷ drop place them
    → planned new ≡ put_member it.key.now (content_of it.content) (planned them)
insert_member them new place it belongs is =
    ap planned is
    ∙ map-append member_of (take place them) (it ∷ drop place them)
    ∙ ap₂ (λ front more. front ++ member_of it ∷ more) (sym (take-map member_of place them)) (sym (drop-map member_of place them))
    ∙ sym (belongs.put_in (content_of it.content))

pub length_planned : (them : List r_member.Member) → length (planned them) ≡ length them
length_planned them = length-map them member_of

-- ---- planned

-- A member more.

put_at : (o : Ordering) (children : List NodeChild) (key : List ℕ) (it : Content) (first : Member) (more : List Member)
    → filled children (put_member key it more) ≡ v.put key (datum children it) (filled children more)
    → filled children (match_ordering o ((key, it) ∷ first ∷ more) ((first.0, it) ∷ more) (first ∷ put_member key it more))
    ≡ match_ordering o (member key (datum children it) (member first.0 (datum children first.1) (filled children more)))
    (member first.0 (datum children it) (filled children more))
    (member first.0 (datum children first.1) (v.put key (datum children it) (filled children more)))
put_at Less children key it first more later = refl
put_at Equal children key it first more later = refl
put_at Greater children key it first more later = ap (member first.0 (datum children first.1)) later

filled-put : (children : List NodeChild) (key : List ℕ) (it : Content) (members : List Member)
    → filled children (put_member key it members) ≡ v.put key (datum children it) (filled children members)
filled-put children key it [] = refl
filled-put children key it (first ∷ more) =
    put_at (slice_cmp nat_cmp key first.0) children key it first more (filled-put children key it more)

filled-scalar : (children : List NodeChild) (it : Scalar) (members : List Member)
    → filled children (put_scalar it members) ≡ with_scalar it (filled children members)
filled-scalar children (text key it) members = filled-put children key (a_text it) members
filled-scalar children (optional_text key None) members = filled-put children key nothing members
filled-scalar children (optional_text key (Some it)) members = filled-put children key (a_text it) members
filled-scalar children (truth key it) members = filled-put children key (a_truth it) members
filled-scalar children (given key it) members = refl

filled-scalars : (children : List NodeChild) (them : List Scalar) (members : List Member)
    → filled children (put_scalars them members) ≡ with_scalars them (filled children members)
filled-scalars children [] members = refl
filled-scalars children (it ∷ more) members =
    filled-scalars children more (put_scalar it members)
    ∙ ap (with_scalars more) (filled-scalar children it members)

-- the children in each field are the trees there
abbrev Agrees : List NodeChild → List Field → Fields → Type 0
Agrees whole [] inside = Unit {0}
Agrees whole (it ∷ more) no_fields = Unit {0}
Agrees whole (it ∷ more) (in_field number them rest) =
    (written_in it.number whole ≡ each_written them) × Agrees whole more rest

filled-fields : (whole : List NodeChild) (them : List Field) (inside : Fields) (members : List Member)
    → f.AreLaidOut them inside → Agrees whole them inside
    → filled whole (put_fields them members) ≡ with_fields them inside (filled whole members)
filled-fields whole [] inside members laid agree = refl
filled-fields whole (it ∷ more) no_fields members laid agree = absurd laid
filled-fields whole (it ∷ more) (in_field number them rest) members laid agree =
    filled-fields whole more rest (put_member it.key (nodes it.shape it.number) members) laid.3 agree.1
    ∙ ap (with_fields more rest)
    (filled-put whole it.key (nodes it.shape it.number) members
    ∙ ap (λ ds. v.put it.key (in_shape it.shape ds) (filled whole members)) agree.0)

-- The children of a node.

abbrev pub each_of : ℕ → Trees → List NodeChild
each_of number no_trees = []
each_of number (tree it rest) = (number, it) ∷ each_of number rest

abbrev pub children : Fields → List NodeChild
children no_fields = []
children (in_field number them rest) = each_of number them ++ children rest

each_of-items : (number : ℕ) (them : Trees) (more : List NodeChild)
    → children_items (each_of number them ++ more) ≡ trees_items number them ++ children_items more
each_of-items number no_trees more = refl
each_of-items number (tree it rest) more =
    ap (λ items. tree_items number it ++ items) (each_of-items number rest more)
    ∙ sym (append_assoc (tree_items number it) (trees_items number rest) (children_items more))

pub children-items : (inside : Fields) → children_items (children inside) ≡ fields_items inside
children-items no_fields = refl
children-items (in_field number them rest) =
    each_of-items number them (children rest)
    ∙ ap (λ items. trees_items number them ++ items) (children-items rest)

each_of-laid : (number : ℕ) (them : Trees) (more : List NodeChild)
    → EachLaidOut them → AreLaidOut more → AreLaidOut (each_of number them ++ more)
each_of-laid number no_trees more laid others = others
each_of-laid number (tree it rest) more laid others =
    (laid.0, each_of-laid number rest more laid.1 others)

pub children-laid : (them : List Field) (inside : Fields) → f.AreLaidOut them inside
    → AreLaidOut (children inside)
children-laid [] no_fields laid = tt
children-laid [] (in_field number them rest) laid = absurd laid
children-laid (it ∷ more) no_fields laid = absurd laid
children-laid (it ∷ more) (in_field number them rest) laid =
    each_of-laid number them (children rest) laid.2 (children-laid more rest laid.3)

-- none of the children is in the field
abbrev Without : ℕ → List NodeChild → Type 0
Without number [] = Unit {0}
Without number (it ∷ more) = ((it.0 == number) ≡ false) × Without number more

skipped : (number : ℕ) (before more : List NodeChild) → Without number before
    → written_in number (before ++ more) ≡ written_in number more
skipped number [] more without = refl
skipped number (it ∷ before) more without = rw without.0 (skipped number before more without.1)

none_in : (number : ℕ) (them : List NodeChild) → Without number them → written_in number them ≡ no_items
none_in number [] without = refl
none_in number (it ∷ more) without = rw without.0 (none_in number more without.1)

those_in : (number : ℕ) (them : Trees) (more : List NodeChild) → Without number more
    → written_in number (each_of number them ++ more) ≡ each_written them
those_in number no_trees more without = none_in number more without
those_in number (tree it rest) more without =
    rw (same_number number) (ap (item (written it)) (those_in number rest more without))

each_without : (field number : ℕ) (them : Trees) (more : List NodeChild) → (number == field) ≡ false
    → Without field more → Without field (each_of number them ++ more)
each_without field number no_trees more other without = without
each_without field number (tree it rest) more other without =
    (other, each_without field number rest more other without)

children_without : (field : ℕ) (them : List Field) (inside : Fields) → OtherThan field them
    → f.AreLaidOut them inside → Without field (children inside)
children_without field [] no_fields other laid = tt
children_without field [] (in_field number trees rest) other laid = absurd laid
children_without field (it ∷ more) no_fields other laid = absurd laid
children_without field (it ∷ more) (in_field number trees rest) other laid =
    each_without field number trees (children rest) (ap (λ n. n == field) laid.0 ∙ other.0)
    (children_without field more rest other.1 laid.3)

-- none of the children is in one of the fields
abbrev WithoutAll : List Field → List NodeChild → Type 0
WithoutAll [] them = Unit {0}
WithoutAll (it ∷ more) them = Without it.number them × WithoutAll more them

other_way : (a b : ℕ) → (a == b) ≡ false → (b == a) ≡ false
other_way a b h = grind arith

without_then : (field : ℕ) (a b : List NodeChild) → Without field a → Without field b → Without field (a ++ b)
without_then field [] b first second = second
without_then field (it ∷ a) b first second = (first.0, without_then field a b first.1 second)

each_alone : (field number : ℕ) (them : Trees) → (number == field) ≡ false → Without field (each_of number them)
each_alone field number no_trees other = tt
each_alone field number (tree it rest) other = (other, each_alone field number rest other)

without_all : (them : List Field) (before : List NodeChild) (number : ℕ) (trees : Trees) → OtherThan number them
    → WithoutAll them before → WithoutAll them (before ++ each_of number trees)
without_all [] before number trees other without = tt
without_all (it ∷ more) before number trees other without = (
  without_then it.number before (each_of number trees) without.0
      (each_alone it.number number trees (other_way it.number number other.0)),
  without_all more before number trees other.1 without.1,
)

agrees : (before : List NodeChild) (them : List Field) (inside : Fields) → WithoutAll them before → Distinct them
    → f.AreLaidOut them inside → Agrees (before ++ children inside) them inside
agrees before [] inside without apart laid = tt
agrees before (it ∷ more) no_fields without apart laid = tt
agrees before (it ∷ more) (in_field number trees rest) without apart laid =
    let same = laid.0 in
    let here : written_in it.number (before ++ (each_of number trees ++ children rest)) ≡ each_written trees
    = skipped it.number before (each_of number trees ++ children rest) without.0
    ∙ ap (λ n. written_in it.number (each_of n trees ++ children rest)) same
    ∙ those_in it.number trees (children rest) (children_without it.number more rest apart.0 laid.3) in
    let others : Agrees ((before ++ each_of number trees) ++ children rest) more rest
    = agrees (before ++ each_of number trees) more rest
    (without_all more before number trees (subst (λ n. OtherThan n more) (sym same) apart.0) without.1)
    apart.1 laid.3 in
    (here, subst (λ them. Agrees them more rest) (append_assoc before (each_of number trees) (children rest)) others)

without_none : (them : List Field) → WithoutAll them []
without_none [] = tt
without_none (it ∷ more) = (tt, without_none more)

-- a node's form is what is planned for it, filled with its children
pub filled-plan : (head : Head) (inside : Fields) → IsLaidOut (node head inside)
    → object (filled (children inside) (plan head)) ≡ written (node head inside)
filled-plan head inside laid =
    let first = put_member (codes "type") (a_text (name head)) [] in
    let them = children inside in
    ap object
    (filled-fields them (node_fields head) inside (put_scalars (scalars head) first) laid
    (agrees [] (node_fields head) inside (without_none (node_fields head)) (distinct head) laid)
    ∙ ap (with_fields (node_fields head) inside) (filled-scalars them (scalars head) first))
