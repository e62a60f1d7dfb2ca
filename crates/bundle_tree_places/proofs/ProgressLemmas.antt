-- How the rebuilding of a list goes on, element by element.
use Rattle.std.proofs.Common.{◌≡◌, ℕ, zero, suc, ◌+◌, ◌==◌, ◌&&◌, Bool, true, false, not, cond, List, [], ◌∷◌, ◌++◌, Option, Some, None, take, drop, reverse, refl, ap, sym, ◌∙◌, arith, append_assoc, append-nil, length}
use Rattle.std.specs.Prelude.{slice_get, count_by, fold, if◌then◌else◌}
use Rattle.std.proofs.lemmas.Option.{none-some}
use Rattle.std.proofs.lemmas.List.{reverse-append}
use Rattle.bundle_syntax.specs.declared.piece.Role.{Role}
use Rattle.bundle_syntax.specs.declared.piece.Role.TheVariants.{Binding, Reference, Word}
use Rattle.bundle_syntax.specs.Item as h
use Rattle.bundle_syntax.specs.Item.{Item, Head}
use Rattle.bundle_rules.specs.Places as places
use Rattle.bundle_rules.specs.Places.{Spot, start, past, path_past, path_to, path_to_option, path_at, in_field, outer_path, spot_before, occurrences_from}
use Rattle.bundle_rules.proofs.PlacesLemmas.{spot_before-next}
use Rattle.bundle_rules.specs.Nodes.{Text}
use Rattle.bundle_rules.specs.Idents.{Ident}
use Rattle.bundle_rules.specs.Meaning.{ends_at, has_default, is_object, is_shorthand_in_pattern, symbol_of}
use Rattle.bundle_rules.specs.Shape.{is_specifier}
use Rattle.bundle_rules.specs.Rebuilds.{Change, change_at, spells_out, is_key_spelled_out, pattern_front, new_begin, new_end, new_occurrence, new_item, spelled_out, rebuilt_from, rebuilt}
use Rattle.bundle_tree_places.proofs.Spelled.{Around}
use Rattle.bundle_tree_places.proofs.Spelled as a
use Rattle.bundle_tree_places.proofs.Spelled.{around_of, field_in, pattern_begin, begun_in, ended_in, spelled_in, named_in}
use Rattle.bundle_tree_places.proofs.Progress.{is_occurrence, is_first_key_spelled_out, asked, each_asked, IsAt}
use Rattle.bundle_tree_places.proofs.ListLemmas.{slice_get-drop, drop_at, take_at, count_by-append, count_by-cons, count_by-take-add}

-- Occurrences.

-- from a spot on there are as many occurrences as elements that are one
length_from : (spot : Spot) (items : List Item) → length (occurrences_from spot items) ≡ count_by is_occurrence items
length_from spot [] = refl
length_from spot (h.Open field head ∷ rest) = let later = length_from (past spot (h.Open field head)) rest in let counted = count_by-cons is_occurrence (h.Open field head) rest in omega (arith, later, counted)
length_from spot (h.Ident field symbol ctxt Binding ∷ rest) = let later = length_from (past spot (h.Ident field symbol ctxt Binding)) rest in let counted = count_by-cons is_occurrence (h.Ident field symbol ctxt Binding) rest in omega (arith, later, counted)
length_from spot (h.Ident field symbol ctxt Reference ∷ rest) = let later = length_from (past spot (h.Ident field symbol ctxt Reference)) rest in let counted = count_by-cons is_occurrence (h.Ident field symbol ctxt Reference) rest in omega (arith, later, counted)
length_from spot (h.Ident field symbol ctxt Word ∷ rest) = let later = length_from (past spot (h.Ident field symbol ctxt Word)) rest in let counted = count_by-cons is_occurrence (h.Ident field symbol ctxt Word) rest in omega (arith, later, counted)
length_from spot (h.Hole field ∷ rest) = let later = length_from (past spot (h.Hole field)) rest in let counted = count_by-cons is_occurrence (h.Hole field) rest in omega (arith, later, counted)
length_from spot (h.Close ∷ rest) = let later = length_from (past spot h.Close) rest in let counted = count_by-cons is_occurrence h.Close rest in omega (arith, later, counted)

-- the change of an occurrence, by how many stand before it
pub change_at-count : (tree : List Item) (changes : List Change) (place : ℕ) → change_at tree changes place ≡ slice_get changes (count_by is_occurrence (take place tree))
change_at-count tree changes place = ap (slice_get changes) (length_from start (take place tree))

-- whether a shorthand property is spelled out, by the elements from its beginning on
pub key-first : (tree : List Item) (changes : List Change) (place : ℕ) → is_key_spelled_out tree changes place ≡ is_first_key_spelled_out (drop place tree) changes (count_by is_occurrence (take place tree))
key-first tree changes place = ap spells_out (change_at-count tree changes (place + 2) ∙ ap (slice_get changes) (count_by-take-add is_occurrence place 2 tree))

-- whether it has a default value, likewise
pub default-first : (tree : List Item) (place : ℕ) → has_default tree place ≡ has_default (drop place tree) 0
default-first tree place = ap (λ (x : Option Item). not (ends_at x)) (sym (slice_get-drop place tree 4))

-- Nodes around.

-- the spots of a list are numbered in a row
fold_past-place : (s : Spot) (items : List Item) (k : ℕ) (item : Item) → slice_get items k ≡ Some item → (fold past s (take k items)).place ≡ s.place + k
fold_past-place s [] k item e = absurd (none-some item e)
fold_past-place s (x ∷ xs) zero item e = omega arith
fold_past-place s (x ∷ xs) (suc k) item e = let rest = fold_past-place (past s x) xs k item e in omega (arith, rest)

-- the spot before a place has its number
spot_before-place : (items : List Item) (k : ℕ) (item : Item) → slice_get items k ≡ Some item → (spot_before items k).place ≡ k
spot_before-place items k item e = let at = fold_past-place start items k item e in omega (arith, at)

-- the path behind an element
path-next : (items : List Item) (k : ℕ) (item : Item) → slice_get items k ≡ Some item → (spot_before items (k + 1)).path ≡ path_past k (spot_before items k).path item
path-next items k item e = ap (λ (s : Spot). s.path) (spot_before-next items k item e) ∙ ap (λ n. path_past n (spot_before items k).path item) (spot_before-place items k item e)

-- the field of the innermost node counts for nothing
each_asked-in_field : (tree : List Item) (changes : List Change) (field : ℕ) (path : List places.Around) → each_asked tree changes (in_field field path) ≡ each_asked tree changes path
each_asked-in_field tree changes field [] = refl
each_asked-in_field tree changes field (node ∷ outer) = refl

-- what the innermost node asks
abbrev pub first_asked : List Item → List Change → List places.Around → Around
first_asked tree changes [] = a.Other
first_asked tree changes (node ∷ outer) = asked tree changes node

-- what is asked first
first-is : (tree : List Item) (changes : List Change) (path : List places.Around) (around : Around) (others : List Around) → around ∷ others ≡ each_asked tree changes path → around ≡ first_asked tree changes path
first-is tree changes [] around others e = cc
first-is tree changes (node ∷ outer) around others e = cc

-- what the outer nodes ask, where one is open
others-some : (tree : List Item) (changes : List Change) (path : List places.Around) (around next : Around) (others : List Around) → around ∷ next ∷ others ≡ each_asked tree changes path → next ∷ others ≡ each_asked tree changes (outer_path path)
others-some tree changes [] around next others e = cc
others-some tree changes (node ∷ outer) around next others e = cc

-- and where none is
others-none : (tree : List Item) (changes : List Change) (path : List places.Around) (around : Around) → around ∷ [] ≡ each_asked tree changes path → a.Other ∷ [] ≡ each_asked tree changes (outer_path path)
others-none tree changes [] around e = refl
others-none tree changes (node ∷ []) around e = cc
others-none tree changes (node ∷ next ∷ outer) around e = cc

-- What stands in the place of an element.

-- the beginning of a shorthand property of a pattern
pattern_begin-is : (is_spelled_out default : Bool) (field : ℕ) (key : Text) → (if is_spelled_out then pattern_front field key default else h.Open field h.AssignPatProp ∷ []) ≡ pattern_begin (around_of h.AssignPatProp is_spelled_out default) field key
pattern_begin-is true default field key = refl
pattern_begin-is false default field key = refl

-- the beginning of another node
other_begin-is : (is_shorthand is_first is_spelled_out default object specifier : Bool) (field : ℕ) (head : Head) → field == 0 ≡ is_first → (if is_shorthand && is_first && is_spelled_out then h.Open (if default then 0 else 1) head ∷ [] else h.Open field head ∷ []) ≡ h.Open (field_in (if is_shorthand && is_spelled_out then a.Property default else (if object then a.Object else (if specifier then a.Specifier else a.Other))) field) head ∷ []
other_begin-is true true true default object specifier field head e = ap (λ first. h.Open (if first then (if default then 0 else 1) else field) head ∷ []) (sym e)
other_begin-is true false true default object specifier field head e = ap (λ first. h.Open (if first then (if default then 0 else 1) else field) head ∷ []) (sym e)
other_begin-is true true false default true specifier field head e = refl
other_begin-is true true false default false true field head e = refl
other_begin-is true true false default false false field head e = refl
other_begin-is true false false default true specifier field head e = refl
other_begin-is true false false default false true field head e = refl
other_begin-is true false false default false false field head e = refl
other_begin-is false is_first is_spelled_out default true specifier field head e = refl
other_begin-is false is_first is_spelled_out default false true field head e = refl
other_begin-is false is_first is_spelled_out default false false field head e = refl

-- the beginning of a node that lies in these nodes
begin-is : (tree : List Item) (changes : List Change) (place field : ℕ) (path : List places.Around) (head : Head) → new_begin tree changes place field (in_field field path) head ≡ begun_in (first_asked tree changes path) (around_of head (is_key_spelled_out tree changes place) (has_default tree place)) field head (symbol_of (slice_get tree (place + 2)))
begin-is tree changes place field path h.AssignPatProp = pattern_begin-is (is_key_spelled_out tree changes place) (has_default tree place) field (symbol_of (slice_get tree (place + 2)))
begin-is tree changes place field [] _ = refl
begin-is tree changes place field (node ∷ outer) head = other_begin-is (is_shorthand_in_pattern node.head) (field == 0) (is_key_spelled_out tree changes node.begins) (has_default tree node.begins) (is_object node.head) (is_specifier node.head) field head refl

-- the end of a node
end_of_node-is : (is_shorthand is_spelled_out default object specifier : Bool) → (if is_shorthand && default && is_spelled_out then h.Close ∷ h.Close ∷ [] else h.Close ∷ []) ≡ ended_in (if is_shorthand && is_spelled_out then a.Property default else (if object then a.Object else (if specifier then a.Specifier else a.Other)))
end_of_node-is true true true object specifier = refl
end_of_node-is true true false object specifier = refl
end_of_node-is true false true true specifier = refl
end_of_node-is true false true false true = refl
end_of_node-is true false true false false = refl
end_of_node-is true false false true specifier = refl
end_of_node-is true false false false true = refl
end_of_node-is true false false false false = refl
end_of_node-is false is_spelled_out default true specifier = refl
end_of_node-is false is_spelled_out default false true = refl
end_of_node-is false is_spelled_out default false false = refl

end-is : (tree : List Item) (changes : List Change) (path : List places.Around) → new_end tree changes path ≡ ended_in (first_asked tree changes path)
end-is tree changes [] = refl
end-is tree changes (node ∷ outer) = end_of_node-is (is_shorthand_in_pattern node.head) (is_key_spelled_out tree changes node.begins) (has_default tree node.begins) (is_object node.head) (is_specifier node.head)

-- an identifier that is spelled out
spelled-is : (head : Head) (is_spelled_out default : Bool) (field : ℕ) (is_last : Bool) (x : Text) (role : Role) (ident : Ident) → spelled_out field head is_last x role ident ≡ spelled_in (around_of head is_spelled_out default) field is_last x role ident
spelled-is h.AssignPatProp true default field is_last x role ident = refl
spelled-is h.AssignPatProp false default field is_last x role ident = refl
spelled-is _ is_spelled_out default field is_last x role ident = refl

-- an identifier that changes
name-is : (tree : List Item) (changes : List Change) (path : List places.Around) (field ctxt : ℕ) (is_last : Bool) (x : Text) (role : Role) (change : Option Change) → new_occurrence field (in_field field path) is_last x ctxt role change ≡ named_in (first_asked tree changes path) field is_last (x, ctxt) role change
name-is tree changes path field ctxt is_last x role None = refl
name-is tree changes [] field ctxt is_last x role (Some change) = same change.is_spelled_out
  where
    same : (b : Bool) → h.Ident field change.ident.0 change.ident.1 role ∷ [] ≡ (if b then h.Ident field change.ident.0 change.ident.1 role ∷ [] else h.Ident field change.ident.0 change.ident.1 role ∷ [])
    same true = refl
    same false = refl
name-is tree changes (node ∷ outer) field ctxt is_last x role (Some change) = ap (λ (spelled : List Item). if change.is_spelled_out then spelled else h.Ident field change.ident.0 change.ident.1 role ∷ []) (spelled-is node.head (is_key_spelled_out tree changes node.begins) (has_default tree node.begins) field is_last x role change.ident)

-- The steps.

-- the elements from a place on become what that one does and what those behind it do
rebuilt-at : (tree : List Item) (changes : List Change) (place : ℕ) (x : Item) → slice_get tree place ≡ Some x → rebuilt_from tree changes place (drop place tree) ≡ new_item tree changes place (path_to (spot_before tree place).path x) x ++ rebuilt_from tree changes (place + 1) (drop (place + 1) tree)
rebuilt-at tree changes place x at =
    let next : suc place ≡ place + 1 = omega arith in
    ap (rebuilt_from tree changes place) (drop_at tree place x at)
    ∙ ap (λ option. new_item tree changes place (path_to_option (spot_before tree place).path option) x ++ rebuilt_from tree changes (suc place) (drop (suc place) tree)) at
    ∙ ap (λ n. new_item tree changes place (path_to (spot_before tree place).path x) x ++ rebuilt_from tree changes n (drop n tree)) next

-- what is made grows by what stands in the place of the element
made-next : (tree : List Item) (changes : List Change) (place : ℕ) (x : Item) (list more : List Item) → slice_get tree place ≡ Some x → list ++ rebuilt_from tree changes place (drop place tree) ≡ rebuilt tree changes → new_item tree changes place (path_to (spot_before tree place).path x) x ≡ more → (list ++ more) ++ rebuilt_from tree changes (place + 1) (drop (place + 1) tree) ≡ rebuilt tree changes
made-next tree changes place x list more at made is =
    let behind : List Item = rebuilt_from tree changes (place + 1) (drop (place + 1) tree) in
    append_assoc list more behind
    ∙ ap (λ (middle : List Item). list ++ (middle ++ behind)) (sym is)
    ∙ ap (λ (rest : List Item). list ++ rest) (sym (rebuilt-at tree changes place x at))
    ∙ made

-- the count grows by the element, if it is an occurrence
counted-next : (tree : List Item) (place : ℕ) (x : Item) → slice_get tree place ≡ Some x → count_by is_occurrence (take (place + 1) tree) ≡ count_by is_occurrence (take place tree) + cond (is_occurrence x) 1 0
counted-next tree place x at =
    let next : place + 1 ≡ suc place = omega arith in
    let one : count_by is_occurrence (x ∷ []) ≡ cond (is_occurrence x) 1 0 + 0 = count_by-cons is_occurrence x [] in
    let both : count_by is_occurrence (take (place + 1) tree) ≡ count_by is_occurrence (take place tree) + count_by is_occurrence (x ∷ []) =
    ap (λ n. count_by is_occurrence (take n tree)) next ∙ ap (count_by is_occurrence) (take_at tree place x at) ∙ count_by-append is_occurrence (take place tree) (x ∷ []) in
    omega (arith, one, both)

-- a node begins
pub begin-next : (tree : List Item) (changes : List Change) (place field : ℕ) (head : Head) (list : List Item) (around inner : Around) (outer : List Around) (count : ℕ) → IsAt tree changes place list around outer count → slice_get tree place ≡ Some (h.Open field head) → inner ≡ around_of head (is_first_key_spelled_out (drop place tree) changes count) (has_default (drop place tree) 0) → IsAt tree changes (place + 1) (list ++ begun_in around inner field head (symbol_of (slice_get (drop place tree) 2))) inner (outer ++ around ∷ []) count
begin-next tree changes place field head list around inner outer count before at is =
    let path : List places.Around = (spot_before tree place).path in
    let key : is_key_spelled_out tree changes place ≡ is_first_key_spelled_out (drop place tree) changes count = key-first tree changes place ∙ ap (is_first_key_spelled_out (drop place tree) changes) (sym before.counted) in
    let asks : inner ≡ around_of head (is_key_spelled_out tree changes place) (has_default tree place) =
    is ∙ ap (λ k. around_of head k (has_default (drop place tree) 0)) (sym key) ∙ ap (around_of head (is_key_spelled_out tree changes place)) (sym (default-first tree place)) in
    let first : around ≡ first_asked tree changes path = first-is tree changes path around (reverse outer) before.open_nodes in
    let begins : new_begin tree changes place field (in_field field path) head ≡ begun_in around inner field head (symbol_of (slice_get (drop place tree) 2)) =
    begin-is tree changes place field path head
    ∙ ap (λ asked_inside. begun_in (first_asked tree changes path) asked_inside field head (symbol_of (slice_get tree (place + 2)))) (sym asks)
    ∙ ap (λ asked_here. begun_in asked_here inner field head (symbol_of (slice_get tree (place + 2)))) (sym first)
    ∙ ap (λ (x : Option Item). begun_in around inner field head (symbol_of x)) (sym (slice_get-drop place tree 2)) in
    let pushed : reverse (outer ++ around ∷ []) ≡ around ∷ reverse outer = reverse-append outer (around ∷ []) in
    let nodes : inner ∷ reverse (outer ++ around ∷ []) ≡ each_asked tree changes (spot_before tree (place + 1)).path =
    ap (λ others. inner ∷ others) (pushed ∙ before.open_nodes ∙ sym (each_asked-in_field tree changes field path))
    ∙ ap (λ asked_inside. asked_inside ∷ each_asked tree changes (in_field field path)) asks
    ∙ sym (ap (each_asked tree changes) (path-next tree place (h.Open field head) at)) in
    let count_stays = counted-next tree place (h.Open field head) at in
    let counted : count ≡ count_by is_occurrence (take place tree) = before.counted in
    record { made = made-next tree changes place (h.Open field head) list _ at before.made begins; open_nodes = nodes; counted = omega (arith, count_stays, counted) }

-- a node ends, inside another
pub end-next_some : (tree : List Item) (changes : List Change) (place : ℕ) (list : List Item) (around next : Around) (outer rest : List Around) (count : ℕ) → IsAt tree changes place list around outer count → slice_get tree place ≡ Some h.Close → outer ≡ rest ++ next ∷ [] → IsAt tree changes (place + 1) (list ++ ended_in around) next rest count
end-next_some tree changes place list around next outer rest count before at popped =
    let path : List places.Around = (spot_before tree place).path in
    let first : around ≡ first_asked tree changes path = first-is tree changes path around (reverse outer) before.open_nodes in
    let ends : new_end tree changes path ≡ ended_in around = end-is tree changes path ∙ ap ended_in (sym first) in
    let others : reverse outer ≡ next ∷ reverse rest = ap reverse popped ∙ reverse-append rest (next ∷ []) in
    let nodes : next ∷ reverse rest ≡ each_asked tree changes (spot_before tree (place + 1)).path =
    others-some tree changes path around next (reverse rest) (ap (λ more. around ∷ more) (sym others) ∙ before.open_nodes)
    ∙ sym (ap (each_asked tree changes) (path-next tree place h.Close at)) in
    let count_stays = counted-next tree place h.Close at in
    let counted : count ≡ count_by is_occurrence (take place tree) = before.counted in
    record { made = made-next tree changes place h.Close list _ at before.made ends; open_nodes = nodes; counted = omega (arith, count_stays, counted) }

-- a node ends, and none is around it
pub end-next_none : (tree : List Item) (changes : List Change) (place : ℕ) (list : List Item) (around : Around) (count : ℕ) → IsAt tree changes place list around [] count → slice_get tree place ≡ Some h.Close → IsAt tree changes (place + 1) (list ++ ended_in around) a.Other [] count
end-next_none tree changes place list around count before at =
    let path : List places.Around = (spot_before tree place).path in
    let first : around ≡ first_asked tree changes path = first-is tree changes path around [] before.open_nodes in
    let ends : new_end tree changes path ≡ ended_in around = end-is tree changes path ∙ ap ended_in (sym first) in
    let nodes : a.Other ∷ [] ≡ each_asked tree changes (spot_before tree (place + 1)).path =
    others-none tree changes path around before.open_nodes ∙ sym (ap (each_asked tree changes) (path-next tree place h.Close at)) in
    let count_stays = counted-next tree place h.Close at in
    let counted : count ≡ count_by is_occurrence (take place tree) = before.counted in
    record { made = made-next tree changes place h.Close list _ at before.made ends; open_nodes = nodes; counted = omega (arith, count_stays, counted) }

-- an element that is a plain word or a hole
pub hole-next : (tree : List Item) (changes : List Change) (place field : ℕ) (list : List Item) (around : Around) (outer : List Around) (count : ℕ) → IsAt tree changes place list around outer count → slice_get tree place ≡ Some (h.Hole field) → IsAt tree changes (place + 1) (list ++ h.Hole field ∷ []) around outer count
hole-next tree changes place field list around outer count before at =
    let nodes : around ∷ reverse outer ≡ each_asked tree changes (spot_before tree (place + 1)).path = before.open_nodes ∙ sym (ap (each_asked tree changes) (path-next tree place (h.Hole field) at)) in
    let count_stays = counted-next tree place (h.Hole field) at in
    let counted : count ≡ count_by is_occurrence (take place tree) = before.counted in
    record { made = made-next tree changes place (h.Hole field) list _ at before.made refl; open_nodes = nodes; counted = omega (arith, count_stays, counted) }

pub word-next : (tree : List Item) (changes : List Change) (place field ctxt : ℕ) (x : Text) (list : List Item) (around : Around) (outer : List Around) (count : ℕ) → IsAt tree changes place list around outer count → slice_get tree place ≡ Some (h.Ident field x ctxt Word) → IsAt tree changes (place + 1) (list ++ h.Ident field x ctxt Word ∷ []) around outer count
word-next tree changes place field ctxt x list around outer count before at =
    let nodes : around ∷ reverse outer ≡ each_asked tree changes (spot_before tree (place + 1)).path = before.open_nodes ∙ sym (ap (each_asked tree changes) (path-next tree place (h.Ident field x ctxt Word) at)) in
    let count_stays = counted-next tree place (h.Ident field x ctxt Word) at in
    let counted : count ≡ count_by is_occurrence (take place tree) = before.counted in
    record { made = made-next tree changes place (h.Ident field x ctxt Word) list _ at before.made refl; open_nodes = nodes; counted = omega (arith, count_stays, counted) }

-- what stands in the place of an identifier that binds or refers
occurs : (tree : List Item) (changes : List Change) (place field ctxt : ℕ) (x : Text) (role : Role) (path : List places.Around) → is_occurrence (h.Ident field x ctxt role) ≡ true → new_item tree changes place path (h.Ident field x ctxt role) ≡ new_occurrence field path (ends_at (slice_get tree (suc place))) x ctxt role (change_at tree changes place)
occurs tree changes place field ctxt x Binding path is_one = refl
occurs tree changes place field ctxt x Reference path is_one = refl
occurs tree changes place field ctxt x Word path is_one = cc

-- an identifier that binds or refers
pub name-next : (tree : List Item) (changes : List Change) (place field ctxt : ℕ) (x : Text) (role : Role) (list : List Item) (around : Around) (outer : List Around) (count : ℕ) → is_occurrence (h.Ident field x ctxt role) ≡ true → IsAt tree changes place list around outer count → slice_get tree place ≡ Some (h.Ident field x ctxt role) → IsAt tree changes (place + 1) (list ++ named_in around field (ends_at (slice_get (drop place tree) 1)) (x, ctxt) role (slice_get changes count)) around outer (count + 1)
name-next tree changes place field ctxt x role list around outer count is_one before at =
    let path : List places.Around = (spot_before tree place).path in
    let next : place + 1 ≡ suc place = omega arith in
    let behind : slice_get tree (suc place) ≡ slice_get (drop place tree) 1 = sym (slice_get-drop place tree 1 ∙ ap (slice_get tree) next) in
    let first : around ≡ first_asked tree changes path = first-is tree changes path around (reverse outer) before.open_nodes in
    let change : change_at tree changes place ≡ slice_get changes count = change_at-count tree changes place ∙ ap (slice_get changes) (sym before.counted) in
    let becomes : new_item tree changes place (in_field field path) (h.Ident field x ctxt role) ≡ named_in around field (ends_at (slice_get (drop place tree) 1)) (x, ctxt) role (slice_get changes count) =
    occurs tree changes place field ctxt x role (in_field field path) is_one
    ∙ name-is tree changes path field ctxt (ends_at (slice_get tree (suc place))) x role (change_at tree changes place)
    ∙ ap (λ asked_here. named_in asked_here field (ends_at (slice_get tree (suc place))) (x, ctxt) role (change_at tree changes place)) (sym first)
    ∙ ap (λ (option : Option Item). named_in around field (ends_at option) (x, ctxt) role (change_at tree changes place)) behind
    ∙ ap (named_in around field (ends_at (slice_get (drop place tree) 1)) (x, ctxt) role) change in
    let nodes : around ∷ reverse outer ≡ each_asked tree changes (spot_before tree (place + 1)).path = before.open_nodes ∙ sym (ap (each_asked tree changes) (path-next tree place (h.Ident field x ctxt role) at)) in
    let count_grows = counted-next tree place (h.Ident field x ctxt role) at in
    let unit : Bool → ℕ = λ b. cond b 1 0 in
    let one : unit (is_occurrence (h.Ident field x ctxt role)) ≡ 1 = ap unit is_one in
    let counted : count ≡ count_by is_occurrence (take place tree) = before.counted in
    record { made = made-next tree changes place (h.Ident field x ctxt role) list _ at before.made becomes; open_nodes = nodes; counted = omega (arith, count_grows, one, counted) }

-- nothing was passed
pub at_start : (tree : List Item) (changes : List Change) → IsAt tree changes 0 [] a.Other [] 0
at_start tree changes = record { made = refl; open_nodes = refl; counted = refl }

-- all elements were passed
pub at_end : (tree : List Item) (changes : List Change) (list : List Item) (around : Around) (outer : List Around) (count : ℕ) → IsAt tree changes (length tree) list around outer count → list ≡ rebuilt tree changes
at_end tree changes list around outer count at = sym (append-nil list) ∙ ap (λ rest. list ++ rebuilt_from tree changes (length tree) rest) (sym (drop-length tree)) ∙ at.made
  where
    drop-length : (xs : List Item) → drop (length xs) xs ≡ []
    drop-length [] = refl
    drop-length (x ∷ xs) = drop-length xs
