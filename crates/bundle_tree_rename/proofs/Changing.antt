-- What becomes of identifiers in turn, as changes: `Renames` says of a tree what `Edits` says.
use Rattle.std.proofs.Common.{◌≡◌, ℕ, true, false, List, [], ◌∷◌, ◌++◌, None, map, drop, refl, ap, sym, ◌∙◌, subst, append_assoc, append-nil}
use Rattle.bundle_rules.specs.Idents.{Ident, ident_of, idents}
use Rattle.bundle_rules.specs.Nodes.{Text}
use Rattle.bundle_rules.specs.Rebuilds.{Change}
use Rattle.bundle_rules.specs.Places.{Spot, start, past, occurrences_from}
use Rattle.bundle_syntax.specs.declared.piece.Role.{Role}
use Rattle.bundle_syntax.specs.declared.piece.Role.TheVariants as r
use Rattle.bundle_syntax.specs.Item as h
use Rattle.bundle_syntax.specs.Item.{Item}
use Rattle.bundle_tree_places.specs.Edits as e
use Rattle.bundle_tree_places.specs.Edits.{Around, Anywhere, Edits, Edited, node, is_occurrence, binding, in_its_place, shorthand_in_its_place}
use Rattle.bundle_tree_rename.specs.Naming.{Naming, next, changes_at}
use Rattle.bundle_tree_rename.specs.Renames.{Renames, Nothing, Joined, Hole, Word, Name, Inside, Shorthand}

-- The identifiers of some elements.

abbrev names_in : List Item → List Ident
names_in [] = []
names_in (h.Ident field x ctxt r.Word ∷ rest) = names_in rest
names_in (h.Ident field x ctxt r.Binding ∷ rest) = (x, ctxt) ∷ names_in rest
names_in (h.Ident field x ctxt r.Reference ∷ rest) = (x, ctxt) ∷ names_in rest
names_in (h.Open field head ∷ rest) = names_in rest
names_in (h.Hole field ∷ rest) = names_in rest
names_in (h.Close ∷ rest) = names_in rest

-- those of a tree are its identifiers
names_from : (spot : Spot) (tree : List Item) → names_in tree ≡ map ident_of (occurrences_from spot tree)
names_from spot [] = refl
names_from spot (h.Ident field x ctxt r.Word ∷ rest) = names_from (past spot (h.Ident field x ctxt r.Word)) rest
names_from spot (h.Ident field x ctxt r.Binding ∷ rest) = ap (λ names. (x, ctxt) ∷ names) (names_from (past spot (h.Ident field x ctxt r.Binding)) rest)
names_from spot (h.Ident field x ctxt r.Reference ∷ rest) = ap (λ names. (x, ctxt) ∷ names) (names_from (past spot (h.Ident field x ctxt r.Reference)) rest)
names_from spot (h.Open field head ∷ rest) = names_from (past spot (h.Open field head)) rest
names_from spot (h.Hole field ∷ rest) = names_from (past spot (h.Hole field)) rest
names_from spot (h.Close ∷ rest) = names_from (past spot h.Close) rest

-- one after another
names_append : (first second : List Item) → names_in (first ++ second) ≡ names_in first ++ names_in second
names_append [] second = refl
names_append (h.Ident field x ctxt r.Word ∷ rest) second = names_append rest second
names_append (h.Ident field x ctxt r.Binding ∷ rest) second = ap (λ names. (x, ctxt) ∷ names) (names_append rest second)
names_append (h.Ident field x ctxt r.Reference ∷ rest) second = ap (λ names. (x, ctxt) ∷ names) (names_append rest second)
names_append (h.Open field head ∷ rest) second = names_append rest second
names_append (h.Hole field ∷ rest) second = names_append rest second
names_append (h.Close ∷ rest) second = names_append rest second

names_before : (inside : List Item) → names_in (inside ++ h.Close ∷ []) ≡ names_in inside
names_before inside = names_append inside (h.Close ∷ []) ∙ append-nil (names_in inside)

-- a plain word is none, and an occurrence is one
word_names : (field : ℕ) (x : Text) (ctxt : ℕ) (role : Role) (rest : List Item) → is_occurrence role ≡ false → names_in (h.Ident field x ctxt role ∷ rest) ≡ names_in rest
word_names field x ctxt r.Word rest word = refl
word_names field x ctxt r.Binding rest word = cc
word_names field x ctxt r.Reference rest word = cc

name_names : (field : ℕ) (x : Text) (ctxt : ℕ) (role : Role) (rest : List Item) → is_occurrence role ≡ true → names_in (h.Ident field x ctxt role ∷ rest) ≡ (x, ctxt) ∷ names_in rest
name_names field x ctxt r.Word rest occurs = cc
name_names field x ctxt r.Binding rest occurs = refl
name_names field x ctxt r.Reference rest occurs = refl

short_names : (field : ℕ) (x : Text) (ctxt : ℕ) (role : Role) (default : List Item) → is_occurrence role ≡ true → names_in (node field h.AssignPatProp (binding None 0 x ctxt role ++ default)) ≡ (x, ctxt) ∷ names_in default
short_names field x ctxt role default occurs =
    names_before (binding None 0 x ctxt role ++ default)
    ∙ name_names 0 x ctxt role (h.Close ∷ default) occurs

-- Their changes.

-- the change of the first, and those of the others
first_change : (names : List Naming) (x : Text) (ctxt : ℕ) (others : List Ident) → e.next (changes_at names ((x, ctxt) ∷ others)) ≡ next names x ctxt
first_change [] x ctxt others = refl
first_change (name ∷ names) x ctxt others = refl

other_changes : (names : List Naming) (ident : Ident) (others : List Ident) → drop 1 (changes_at names (ident ∷ others)) ≡ changes_at (drop 1 names) others
other_changes [] ident others = refl
other_changes (name ∷ names) ident others = refl

-- the same edit with other changes, or with others left
with_changes : {around : Around} {changes others rest : List Change} {before after : List Item} → changes ≡ others → Edits around changes before after rest → Edits around others before after rest
with_changes {around = around} {rest = rest} {before = before} {after = after} same edit = subst (λ its. Edits around its before after rest) same edit

with_left : {around : Around} {changes rest left : List Change} {before after : List Item} → rest ≡ left → Edits around changes before after rest → Edits around changes before after left
with_left {around = around} {changes = changes} {before = before} {after = after} same edit = subst (λ its. Edits around changes before after its) same edit

edits : {around : Around} {names rest : List Naming} {before after : List Item} → Renames around names before after rest → (more : List Ident) → Edits around (changes_at names (names_in before ++ more)) before after (changes_at rest more)
edits Nothing more = e.Nothing
edits (Joined {names = names} {first = first} {second = second} one two) more =
    with_changes (ap (changes_at names) (sym (append_assoc (names_in first) (names_in second) more) ∙ ap (λ its. its ++ more) (sym (names_append first second))))
    (e.Joined (edits one (names_in second ++ more)) (edits two more))
edits (Hole field) more = e.Hole field
edits (Word {names = names} field x ctxt role word) more =
    with_changes (ap (λ its. changes_at names (its ++ more)) (sym (word_names field x ctxt role [] word))) (e.Word field x ctxt role word)
edits (Name around {names = names} field x ctxt role occurs) more =
    let changes : List Change = changes_at names ((x, ctxt) ∷ more) in
    with_changes (ap (λ its. changes_at names (its ++ more)) (sym (name_names field x ctxt role [] occurs)))
    (with_left (other_changes names (x, ctxt) more)
    (subst (λ change. Edits around changes (h.Ident field x ctxt role ∷ []) (in_its_place around change field x ctxt role) (drop 1 changes)) (first_change names x ctxt more)
    (e.Name around field x ctxt role occurs)))
edits (Inside {names = names} field head {inside = inside} plain one) more =
    with_changes (ap (λ its. changes_at names (its ++ more)) (sym (names_before inside))) (e.Inside field head plain (edits one more))
edits {around = around} {rest = rest} (Shorthand {names = names} field x ctxt role {default = default} {made = made} occurs one) more =
    let others : List Ident = names_in default ++ more in
    let changes : List Change = changes_at names ((x, ctxt) ∷ others) in
    with_changes (ap (λ its. changes_at names (its ++ more)) (sym (short_names field x ctxt role default occurs)))
    (subst (λ change. Edits around changes (node field h.AssignPatProp (binding None 0 x ctxt role ++ default)) (shorthand_in_its_place change field x ctxt role made) (changes_at rest more)) (first_change names x ctxt others)
    (e.Shorthand field x ctxt role occurs (with_changes (sym (other_changes names (x, ctxt) others)) (edits one more))))

-- a whole tree
pub edited : {names rest : List Naming} {before after : List Item} → Renames Anywhere names before after rest → Edited (changes_at names (idents before)) before after
edited {names = names} {rest = rest} {before = before} one = record {
  rest = changes_at rest [];
  by = with_changes (ap (changes_at names) (append-nil (names_in before) ∙ names_from start before)) (edits one []);
}
