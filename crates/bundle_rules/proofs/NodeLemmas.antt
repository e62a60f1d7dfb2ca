-- The nodes of a tree and of it cleared: the same, cleared each, with the same texts.
use Rattle.std.proofs.Common.{◌≡◌, ℕ, zero, suc, ◌+◌, Bool, true, false, cond, ◌||◌, List, [], ◌∷◌, ◌++◌, length, filter, flat_map, map, unwrap_or, refl, ap, sym as back, ◌∙◌}
use Rattle.std.specs.List.{list_any}
use Rattle.bundle_syntax.specs.Item as h
use Rattle.bundle_syntax.specs.Item.{Item, Head}
use Rattle.bundle_rules.specs.Nodes.{put_first, side_by_side, parts, field_of, is_some_number, begins_in, in_field, first_or_nothing, child, head_string, head_word, string_of, name_of, begins_with, has_head}
use Rattle.bundle_rules.specs.Statements.{placed, top_items}
use Rattle.bundle_rules.specs.Entries.{text_in, renamed_text}
use Rattle.bundle_rules.specs.Cleared.{cleared_head, cleared_item, cleared}
use Rattle.bundle_rules.proofs.HeadLemmas.{of_head}

put_first-cleared : (x : Item) (nodes : List (List Item)) → put_first (cleared_item x) (map cleared nodes) ≡ map cleared (put_first x nodes)
put_first-cleared x [] = refl
put_first-cleared x (node ∷ more) = refl

pub side_by_side-cleared : (depth : ℕ) (items : List Item) → side_by_side depth (cleared items) ≡ map cleared (side_by_side depth items)
side_by_side-cleared depth [] = refl
side_by_side-cleared depth (h.Open field head ∷ rest) = (λ i. put_first (cleared_item (h.Open field head)) (side_by_side-cleared (suc depth) rest i)) ∙ put_first-cleared (h.Open field head) (side_by_side (suc depth) rest)
side_by_side-cleared zero (h.Ident field sym ctxt role ∷ rest) = λ i. (h.Ident field sym 0 role ∷ []) ∷ side_by_side-cleared zero rest i
side_by_side-cleared (suc depth) (h.Ident field sym ctxt role ∷ rest) = (λ i. put_first (h.Ident field sym 0 role) (side_by_side-cleared (suc depth) rest i)) ∙ put_first-cleared (h.Ident field sym ctxt role) (side_by_side (suc depth) rest)
side_by_side-cleared zero (h.Hole field ∷ rest) = λ i. (h.Hole field ∷ []) ∷ side_by_side-cleared zero rest i
side_by_side-cleared (suc depth) (h.Hole field ∷ rest) = (λ i. put_first (h.Hole field) (side_by_side-cleared (suc depth) rest i)) ∙ put_first-cleared (h.Hole field) (side_by_side (suc depth) rest)
side_by_side-cleared zero (h.Close ∷ rest) = refl
side_by_side-cleared (suc zero) (h.Close ∷ rest) = λ i. (h.Close ∷ []) ∷ side_by_side-cleared zero rest i
side_by_side-cleared (suc (suc depth)) (h.Close ∷ rest) = (λ i. put_first h.Close (side_by_side-cleared (suc depth) rest i)) ∙ put_first-cleared h.Close (side_by_side (suc depth) rest)

-- the nodes that lie directly in a node
pub parts-cleared : (node : List Item) → parts (cleared node) ≡ map cleared (parts node)
parts-cleared [] = refl
parts-cleared (first ∷ inside) = side_by_side-cleared zero inside

field_of-cleared : (x : Item) → field_of (cleared_item x) ≡ field_of x
field_of-cleared (h.Open field head) = refl
field_of-cleared (h.Ident field sym ctxt role) = refl
field_of-cleared (h.Hole field) = refl
field_of-cleared h.Close = refl

begins_in-cleared : (n : ℕ) (node : List Item) → begins_in n (cleared node) ≡ begins_in n node
begins_in-cleared n [] = refl
begins_in-cleared n (x ∷ rest) = λ i. is_some_number (field_of-cleared x i) n

-- what passes a test that does not see contexts and notes
pub filter-cleared : (test : List Item → Bool) → ((node : List Item) → test (cleared node) ≡ test node) → (nodes : List (List Item)) → filter test (map cleared nodes) ≡ map cleared (filter test nodes)
filter-cleared test same [] = refl
filter-cleared test same (node ∷ more) = (λ i. cond (same node i) (cleared node ∷ filter-cleared test same more i) (filter-cleared test same more i)) ∙ kept (test node)
  where
    kept : (b : Bool) → cond b (cleared node ∷ map cleared (filter test more)) (map cleared (filter test more)) ≡ map cleared (cond b (node ∷ filter test more) (filter test more))
    kept true = refl
    kept false = refl

-- what is told of each node, where it does not tell of contexts and notes
pub flat_map-cleared : {A : Type 0} (tell : List Item → List A) → ((node : List Item) → tell (cleared node) ≡ tell node) → (nodes : List (List Item)) → flat_map tell (map cleared nodes) ≡ flat_map tell nodes
flat_map-cleared tell same [] = refl
flat_map-cleared tell same (node ∷ more) = λ i. same node i ++ flat_map-cleared tell same more i

pub map-cleared : {A : Type 0} (tell : List Item → A) → ((node : List Item) → tell (cleared node) ≡ tell node) → (nodes : List (List Item)) → map tell (map cleared nodes) ≡ map tell nodes
map-cleared tell same [] = refl
map-cleared tell same (node ∷ more) = λ i. same node i ∷ map-cleared tell same more i

-- the nodes in a field
pub in_field-cleared : (n : ℕ) (node : List Item) → in_field n (cleared node) ≡ map cleared (in_field n node)
in_field-cleared n node = (λ i. filter (begins_in n) (parts-cleared node i)) ∙ filter-cleared (begins_in n) (begins_in-cleared n) (parts node)

pub first-cleared : (nodes : List (List Item)) → first_or_nothing (map cleared nodes) ≡ cleared (first_or_nothing nodes)
first-cleared [] = refl
first-cleared (node ∷ more) = refl

-- the first of them
pub child-cleared : (n : ℕ) (node : List Item) → child n (cleared node) ≡ cleared (child n node)
child-cleared n node = (λ i. first_or_nothing (in_field-cleared n node i)) ∙ first-cleared (in_field n node)

-- Texts.

pub string_of-cleared : (node : List Item) → string_of (cleared node) ≡ string_of node
string_of-cleared (h.Open field head ∷ rest) = of_head head_string (λ meta. (refl, refl, refl, λ kind. refl)) head
string_of-cleared (h.Ident field sym ctxt role ∷ rest) = refl
string_of-cleared (h.Hole field ∷ rest) = refl
string_of-cleared (h.Close ∷ rest) = refl
string_of-cleared [] = refl

name_of-cleared : (node : List Item) → name_of (cleared node) ≡ name_of node
name_of-cleared (h.Open field head ∷ rest) = of_head head_word (λ meta. (refl, refl, refl, λ kind. refl)) head
name_of-cleared (h.Ident field sym ctxt role ∷ rest) = refl
name_of-cleared (h.Hole field ∷ rest) = refl
name_of-cleared (h.Close ∷ rest) = refl
name_of-cleared [] = refl

-- the string, and the name, that a child is
pub string_of_child : (n : ℕ) (node : List Item) → string_of (child n (cleared node)) ≡ string_of (child n node)
string_of_child n node = ap string_of (child-cleared n node) ∙ string_of-cleared (child n node)

pub name_of_child : (n : ℕ) (node : List Item) → name_of (child n (cleared node)) ≡ name_of (child n node)
name_of_child n node = ap name_of (child-cleared n node) ∙ name_of-cleared (child n node)

pub text_in-cleared : (n : ℕ) (node : List Item) → text_in n (cleared node) ≡ text_in n node
text_in-cleared n node = λ i. unwrap_or (name_of_child n node i) []

pub renamed_text-cleared : (node : List Item) → renamed_text (cleared node) ≡ renamed_text node
renamed_text-cleared node = λ i. unwrap_or (name_of_child 1 node i) (text_in-cleared 0 node i)

-- whether a list begins with a node whose head passes a test
pub begins_with-cleared : (test : Head → Bool) → ((head : Head) → test (cleared_head head) ≡ test head) → (node : List Item) → begins_with test (cleared node) ≡ begins_with test node
begins_with-cleared test same (h.Open field head ∷ rest) = same head
begins_with-cleared test same (h.Ident field sym ctxt role ∷ rest) = refl
begins_with-cleared test same (h.Hole field ∷ rest) = refl
begins_with-cleared test same (h.Close ∷ rest) = refl
begins_with-cleared test same [] = refl

-- whether some node has a head that passes a test
pub has_head-cleared : (test : Head → Bool) → ((head : Head) → test (cleared_head head) ≡ test head) → (items : List Item) → has_head test (cleared items) ≡ has_head test items
has_head-cleared test same (h.Open field head ∷ rest) = λ i. elim (same head i) [ true ↦ true | false ↦ has_head-cleared test same rest i ]
has_head-cleared test same (h.Ident field sym ctxt role ∷ rest) = has_head-cleared test same rest
has_head-cleared test same (h.Hole field ∷ rest) = has_head-cleared test same rest
has_head-cleared test same (h.Close ∷ rest) = has_head-cleared test same rest
has_head-cleared test same [] = refl

-- Top items.

told_of_placed : {A : Type 0} (tell : List Item → List A) (start : ℕ) (nodes : List (List Item)) → flat_map (λ top. tell top.items) (placed start nodes) ≡ flat_map tell nodes
told_of_placed tell start [] = refl
told_of_placed tell start (node ∷ more) = λ i. tell node ++ told_of_placed tell (start + length node) more i

-- what is told of each top item, where it does not tell of places, contexts and notes
pub told_of_tops : {A : Type 0} (tell : List Item → List A) → ((node : List Item) → tell (cleared node) ≡ tell node) → (tree : List Item) → flat_map (λ top. tell top.items) (top_items (cleared tree)) ≡ flat_map (λ top. tell top.items) (top_items tree)
told_of_tops tell same tree =
    told_of_placed tell 1 (parts (cleared tree))
    ∙ ap (flat_map tell) (parts-cleared tree)
    ∙ flat_map-cleared tell same (parts tree)
    ∙ back (told_of_placed tell 1 (parts tree))

any_of_placed : (test : List Item → Bool) (start : ℕ) (nodes : List (List Item)) → list_any (λ top. test top.items) (placed start nodes) ≡ list_any test nodes
any_of_placed test start [] = refl
any_of_placed test start (node ∷ more) = λ i. test node || any_of_placed test (start + length node) more i

any-cleared : (test : List Item → Bool) → ((node : List Item) → test (cleared node) ≡ test node) → (nodes : List (List Item)) → list_any test (map cleared nodes) ≡ list_any test nodes
any-cleared test same [] = refl
any-cleared test same (node ∷ more) = λ i. same node i || any-cleared test same more i

-- whether some top item passes a test that does not see places, contexts and notes
pub any_top : (test : List Item → Bool) → ((node : List Item) → test (cleared node) ≡ test node) → (tree : List Item) → list_any (λ top. test top.items) (top_items (cleared tree)) ≡ list_any (λ top. test top.items) (top_items tree)
any_top test same tree =
    any_of_placed test 1 (parts (cleared tree))
    ∙ ap (list_any test) (parts-cleared tree)
    ∙ any-cleared test same (parts tree)
    ∙ back (any_of_placed test 1 (parts tree))
