-- One renaming after the other is one renaming.
use Rattle.std.proofs.Common.{◌≡◌, ℕ, Bool, true, false, cond, List, [], ◌∷◌, ◌++◌, Option, Some, None, map, unwrap_or, refl, ap, sym, ◌∙◌, append-nil}
use Rattle.std.specs.List.{flat_map}
use Rattle.bundle_tree_ast.specs.declared.module.ModuleItem.{ModuleItem}
use Rattle.bundle_syntax.specs.declared.piece.Role.{Role}
use Rattle.bundle_syntax.specs.declared.piece.Role.TheVariants as r
use Rattle.bundle_syntax.specs.Item as h
use Rattle.bundle_syntax.specs.Item.{Item, Head}
use Rattle.bundle_rules.specs.Places as places
use Rattle.bundle_rules.specs.Places.{is_binding, occurrences}
use Rattle.bundle_rules.specs.Nodes.{Text}
use Rattle.bundle_rules.specs.Idents as terms
use Rattle.bundle_rules.specs.Idents.{Ident, idents}
use Rattle.bundle_rules.specs.Rebuilds as of_lists
use Rattle.bundle_rules.specs.Rebuilds.{Change, change_by, change_then, followed_by, ident_eq, listed, rebuilt, renamed_all}
use Rattle.bundle_tree_places.specs.Edits.{Edited, node, is_occurrence, binding}
use Rattle.bundle_tree_places.specs.Marks.{listed_as}
use Rattle.bundle_tree_places.proofs.EditsLemmas.{rebuilt_so}
use Rattle.bundle_tree_places.proofs.MarksLemmas.{listed-each}
use Rattle.bundle_marks.specs.Composed.{items_list}
use Rattle.bundle_marks.proofs.Shapes.{Part, Specified, IsPlainName, Nothing, Joined, Hole, Plain, Name, Inside, Specifier, Shorthand, alone, named, plain, plains, word, text, made, names, names_specified, again, edits}
use Rattle.bundle_marks.specs.Renamings.{KeepsSymbols}
use Rattle.bundle_marks.proofs.Twice.{both, twice}
use Rattle.bundle_marks.proofs.TreeParts.{items_part}

-- what a list is mapped to twice
pub map-map : {A B C : Type 0} (f : B → C) (g : A → B) (xs : List A) → map f (map g xs) ≡ map (λ x. f (g x)) xs
map-map f g [] = refl
map-map f g (x ∷ xs) = ap (λ ys. f (g x) ∷ ys) (map-map f g xs)

-- The identifiers of a part are those of its list.

-- those of some elements
abbrev idents_in : List Item → List Ident
idents_in tree = map (λ one. one.0) (flat_map listed_as tree)

idents-in : (tree : List Item) → idents tree ≡ idents_in tree
idents-in tree = sym (map-map (λ (one : Ident × Bool). one.0) (λ (o : places.Occurrence). (terms.ident_of o, is_binding o.role)) (occurrences tree)) ∙ ap (map (λ one. one.0)) (listed-each tree)

append-in : (xs ys : List Item) → idents_in (xs ++ ys) ≡ idents_in xs ++ idents_in ys
append-in [] ys = refl
append-in (h.Open field head ∷ xs) ys = append-in xs ys
append-in (h.Ident field sym ctxt r.Binding ∷ xs) ys = ap (λ (rest : List Ident). (sym, ctxt) ∷ rest) (append-in xs ys)
append-in (h.Ident field sym ctxt r.Reference ∷ xs) ys = ap (λ (rest : List Ident). (sym, ctxt) ∷ rest) (append-in xs ys)
append-in (h.Ident field sym ctxt r.Word ∷ xs) ys = append-in xs ys
append-in (h.Hole field ∷ xs) ys = append-in xs ys
append-in (h.Close ∷ xs) ys = append-in xs ys

node-in : (field : ℕ) (head : Head) (inside : List Item) → idents_in (node field head inside) ≡ idents_in inside
node-in field head inside = append-in inside (h.Close ∷ []) ∙ append-nil (idents_in inside)

name-in : (field : ℕ) (x : Text) (ctxt : ℕ) (role : Role) → is_occurrence role ≡ true → (rest : List Item) → idents_in (h.Ident field x ctxt role ∷ rest) ≡ (x, ctxt) ∷ idents_in rest
name-in field x ctxt r.Binding occurs rest = refl
name-in field x ctxt r.Reference occurs rest = refl
name-in field x ctxt r.Word occurs rest = cc

plain-in : {name : List Item} → IsPlainName name → idents_in name ≡ []
plain-in (word field x ctxt) = refl
plain-in (text field value raw) = refl

specified-in : {inside : List Item} (one : Specified inside) → names_specified one ≡ idents_in inside
specified-in (alone field x ctxt role occurs) = sym (name-in field x ctxt role occurs [])
specified-in (named field x ctxt role occurs {name = name} its) = ap (λ (rest : List Ident). (x, ctxt) ∷ rest) (sym (plain-in its)) ∙ sym (name-in field x ctxt role occurs name)
specified-in (plain its) = sym (plain-in its)
specified-in (plains {first = first} {second = second} one two) = sym (append-in first second ∙ ap (λ (all : List Ident). all ++ idents_in second) (plain-in one) ∙ plain-in two)

names-in : {o : Bool} {tree : List Item} (one : Part o tree) → names one ≡ idents_in tree
names-in Nothing = refl
names-in (Joined {first = first} {second = second} one two) = ap (λ (all : List Ident). all ++ names two) (names-in one) ∙ ap (λ (all : List Ident). idents_in first ++ all) (names-in two) ∙ sym (append-in first second)
names-in (Hole field) = refl
names-in (Plain its) = sym (plain-in its)
names-in (Name o field x ctxt role occurs) = sym (name-in field x ctxt role occurs [])
names-in (Inside field head {inside = inside} opens one) = names-in one ∙ sym (node-in field head inside)
names-in (Specifier field head {inside = inside} is one) = specified-in one ∙ sym (node-in field head inside)
names-in (Shorthand field x ctxt role {default = default} occurs one) =
    ap (λ (rest : List Ident). (x, ctxt) ∷ rest) (names-in one)
    ∙ sym (name-in 0 x ctxt role occurs (h.Close ∷ default))
    ∙ sym (node-in field h.AssignPatProp (binding None 0 x ctxt role ++ default))

-- A renaming of a part.

-- what a part becomes is what the definition makes of it
made-is : (F : Ident → Change) {tree : List Item} (one : Part false tree) → made F one ≡ rebuilt tree (map F (idents tree))
made-is F {tree = tree} one =
    let edited : Edited (map F (names one) ++ []) tree (made F one) = record { rest = []; by = edits F [] one } in
    rebuilt_so edited
    ∙ ap (rebuilt tree) (append-nil (map F (names one)) ∙ ap (map F) (names-in one ∙ sym (idents-in tree)))

-- what an identifier becomes by both
pub followed-is : (first second : of_lists.Renaming) (ident : Ident) → change_by (followed_by first second) ident ≡ both (change_by first) (change_by second) ident
followed-is [] second ident = refl
followed-is (pair ∷ rest) second ident = by (ident_eq ident pair.0) _ _ (followed-is rest second ident)
  where
    by : (b : Bool) (then_found found : Option Change) → unwrap_or then_found (record { ident = ident; is_spelled_out = false }) ≡ change_then second (unwrap_or found (record { ident = ident; is_spelled_out = false })) → unwrap_or (cond b (Some (change_then second pair.1)) then_found) (record { ident = ident; is_spelled_out = false }) ≡ change_then second (unwrap_or (cond b (Some pair.1) found) (record { ident = ident; is_spelled_out = false }))
    by true then_found found same = refl
    by false then_found found same = same

-- two renamings that make the same of each identifier make the same of a tree
pub renamed_all-same : (one other : of_lists.Renaming) (tree : List Item) → ((ident : Ident) → change_by one ident ≡ change_by other ident) → renamed_all one tree ≡ renamed_all other tree
renamed_all-same one other tree same = ap (λ (F : Ident → Change). rebuilt tree (map F (idents tree))) (λ i ident. same ident i)

-- the law
pub renamed_all-twice : (first second : of_lists.Renaming) (items : List ModuleItem) → KeepsSymbols (change_by first) → renamed_all second (renamed_all first (items_list items)) ≡ renamed_all (followed_by first second) (items_list items)
renamed_all-twice first second items keeps =
    let part : Part false (items_list items) = items_part items in
    ap (renamed_all second) (sym (made-is (change_by first) part))
    ∙ sym (made-is (change_by second) (again (change_by first) part))
    ∙ twice (change_by first) (change_by second) keeps part
    ∙ made-is (both (change_by first) (change_by second)) part
    ∙ ap (λ (F : Ident → Change). rebuilt (items_list items) (map F (idents (items_list items)))) (λ i ident. sym (followed-is first second ident) i)
