-- What a map says of an identifier, and the identifiers of a tree by its occurrences.
use Rattle.std.proofs.Common.{◌≡◌, ℕ, ◌==◌, ◌&&◌, Bool, true, false, cond, List, [], ◌∷◌, Option, Some, map, unwrap_or, bytes_eq, length, ◌⊎◌, inl, inr, refl, ap, sym, ◌∙◌, arith}
use Rattle.std.specs.Map.{lookup}
use Rattle.std.specs.Option.{option_map}
use Rattle.std.specs.Ordering.{is_eq, nat_cmp, ordering_then}
use Rattle.std.specs.declared.cmp.Ordering.{Ordering}
use Rattle.std.specs.declared.cmp.Ordering.TheVariants.{Less, Equal, Greater}
use Rattle.std.specs.Cmp.Lexicographic.{slice_cmp}
use Rattle.std.proofs.lemmas.Bool.Decides.{nat_tests}
use Rattle.std.proofs.lemmas.Map.Text.{is_eq-slice_cmp}
use Rattle.bundle_syntax.specs.Item.{Item}
use Rattle.bundle_rules.specs.Places.{occurrences, is_binding}
use Rattle.bundle_rules.specs.Places as places
use Rattle.bundle_rules.specs.Idents as terms
use Rattle.bundle_rules.specs.Idents.{Ident, idents}
use Rattle.bundle_rules.specs.Rebuilds.{Change, listed, change_to, changes_to, ident_eq, becomes_by, rebuilt, with_idents, renamed_by}
use Rattle.bundle_tree_places.specs.declared.mark.Name.{Name}
use Rattle.bundle_tree_places.specs.declared.mark.OccurrenceRef.{OccurrenceRef}
use Rattle.bundle_tree_places.specs.Marks.{ident_of, listed_of, pair_of_idents}

-- Identifiers.

-- the first parts of pairs that a list is mapped to
map-map : {A B C : Type 0} (f : B → C) (g : A → B) (xs : List A) → map f (map g xs) ≡ map (λ x. f (g x)) xs
map-map f g [] = refl
map-map f g (x ∷ xs) = ap (λ ys. f (g x) ∷ ys) (map-map f g xs)

-- the identifiers of a tree are those of what is listed
pub idents-listed : (tree : List Item) (all : List OccurrenceRef) → map listed_of all ≡ listed tree → map (λ o. ident_of o.id) all ≡ idents tree
idents-listed tree all e =
    sym (map-map (λ pair. pair.0) listed_of all)
    ∙ ap (map (λ pair. pair.0)) e
    ∙ map-map (λ pair. pair.0) (λ (o : places.Occurrence). (terms.ident_of o, is_binding o.role)) (occurrences tree)

-- the changes to what identifiers are mapped to
pub changes_to-map : {A : Type 0} (f : Ident → Ident) (old : A → Ident) (xs : List A) → changes_to (map old xs) (map f (map old xs)) ≡ map (λ x. change_to (old x) (f (old x))) xs
changes_to-map f old [] = refl
changes_to-map f old (x ∷ xs) = ap (λ ys. change_to (old x) (f (old x)) ∷ ys) (changes_to-map f old xs)

-- nothing is left of one of two lists
pub changes_to-none : {A B : Type 0} (old : A → Ident) (new : B → Ident) (xs : List A) (ys : List B) → (length xs ≡ 0) ⊎ (length ys ≡ 0) → changes_to (map old xs) (map new ys) ≡ []
changes_to-none old new [] ys none = refl
changes_to-none old new (x ∷ xs) [] none = refl
changes_to-none old new (x ∷ xs) (y ∷ ys) (inl e) = absurd (omega (arith, e))
changes_to-none old new (x ∷ xs) (y ∷ ys) (inr e) = absurd (omega (arith, e))

-- the rebuilt tree, where the changes are those to other identifiers in turn
pub with_idents-is : (tree : List Item) (new : List Ident) (all : List OccurrenceRef) (changes : List Change) → map listed_of all ≡ listed tree → changes ≡ changes_to (map (λ o. ident_of o.id) all) new → rebuilt tree changes ≡ with_idents tree new
with_idents-is tree new all changes listed_is is = ap (rebuilt tree) (is ∙ ap (λ olds. changes_to olds new) (idents-listed tree all listed_is))

-- the rebuilt tree, where the changes are those to what identifiers become
pub renamed-is : (tree : List Item) (pairs : List (Ident × Ident)) (all : List OccurrenceRef) (changes : List Change) → map listed_of all ≡ listed tree → changes ≡ map (λ o. change_to (ident_of o.id) (becomes_by pairs (ident_of o.id))) all → rebuilt tree changes ≡ renamed_by pairs tree
renamed-is tree pairs all changes listed_is is =
    ap (rebuilt tree) (is ∙ sym (changes_to-map (becomes_by pairs) (λ o. ident_of o.id) all) ∙ ap (λ olds. changes_to olds (map (becomes_by pairs) olds)) (idents-listed tree all listed_is))

-- The map.

-- what is found among mapped pairs
pub lookup-map : {K L X Y : Type 0} (f : K → L) (g : X → Y) (test : L → Bool) (pairs : List (K × X)) → lookup test (map (λ pair. (f pair.0, g pair.1)) pairs) ≡ option_map g (lookup (λ k. test (f k)) pairs)
lookup-map f g test [] = refl
lookup-map {X = X} {Y = Y} f g test (pair ∷ rest) = first (test (f pair.0)) _ _ (lookup-map f g test rest)
  where
    first : (b : Bool) (found : Option Y) (known : Option X) → found ≡ option_map g known → cond b (Some (g pair.1)) found ≡ option_map g (cond b (Some pair.1) known)
    first true found known e = refl
    first false found known e = e

-- what is found by the same test
pub lookup-same : {K X : Type 0} (test other : K → Bool) → ((k : K) → test k ≡ other k) → (pairs : List (K × X)) → lookup test pairs ≡ lookup other pairs
lookup-same test other same [] = refl
lookup-same test other same (pair ∷ rest) = ap (λ b. cond b (Some pair.1) (lookup test rest)) (same pair.0) ∙ ap (cond (other pair.0) (Some pair.1)) (lookup-same test other same rest)

-- how names are ordered
abbrev pub name_cmp : Name → Name → Ordering
name_cmp x y = ordering_then (slice_cmp nat_cmp x.sym.now y.sym.now) (nat_cmp x.ctxt y.ctxt)

-- two answers are equal where both are
is_eq-then : (r s : Ordering) → is_eq (ordering_then r s) ≡ (is_eq r && is_eq s)
is_eq-then Less s = refl
is_eq-then Equal s = refl
is_eq-then Greater s = refl

-- numbers are equal by their order where they are the same
is_eq-nat_cmp : (m n : ℕ) → is_eq (nat_cmp m n) ≡ (m == n)
is_eq-nat_cmp m n = grind (arith, nat_tests)

-- names are equal by their order where they are the same
pub is_eq-name_cmp : (x y : Name) → is_eq (name_cmp x y) ≡ ident_eq (ident_of x) (ident_of y)
is_eq-name_cmp x y =
    is_eq-then (slice_cmp nat_cmp x.sym.now y.sym.now) (nat_cmp x.ctxt y.ctxt)
    ∙ ap (λ b. b && is_eq (nat_cmp x.ctxt y.ctxt)) (is_eq-slice_cmp x.sym.now y.sym.now)
    ∙ ap (λ b. bytes_eq x.sym.now y.sym.now && b) (is_eq-nat_cmp x.ctxt y.ctxt)

-- what a name becomes
pub becomes_by-lookup : (pairs : List (Name × Name)) (name : Name) → becomes_by (map pair_of_idents pairs) (ident_of name) ≡ unwrap_or (option_map ident_of (lookup (λ k. is_eq (name_cmp name k)) pairs)) (ident_of name)
becomes_by-lookup pairs name =
    ap (λ found. unwrap_or found (ident_of name)) (lookup-map ident_of ident_of (ident_eq (ident_of name)) pairs)
    ∙ ap (λ found. unwrap_or (option_map ident_of found) (ident_of name)) (lookup-same (λ k. ident_eq (ident_of name) (ident_of k)) (λ k. is_eq (name_cmp name k)) (λ k. sym (is_eq-name_cmp name k)) pairs)
