-- The meaning of a list of elements as a computation, for trees in which nothing is replaced; and that it is the meaning.
use Rattle.std.proofs.Common.{◌≡◌, ℕ, List, [], ◌∷◌, ◌++◌, Option, Some, None, refl, sym, subst}
use Rattle.std.specs.Prelude.{position, option_map, option_and_then}
use Rattle.bundle_syntax.specs.declared.piece.Role.TheVariants.{Binding, Reference, Word as IsWord}
use Rattle.bundle_syntax.specs.Item as h
use Rattle.bundle_syntax.specs.Item.{Item}
use Rattle.bundle_rules.specs.Places.{path_at}
use Rattle.bundle_rules.specs.Denotes.{Denoted, Bound, Global, denoted_at}
use Rattle.bundle_rules.specs.Statements.{Element, taken, written}
use Rattle.bundle_rules.specs.Meaning.{Label, Meant, Inside, Known, Unbound, Mark, Empty, Word, View, Sense, same_denoted, Means, finished, begun, ended, empty, named, word, NameMeans, inside, outside, unbound, begin_marks, end_marks, name_marks}

-- nothing is replaced, and a binding stands for its label
abbrev pub labelled_sense : View → (Denoted → Option Label) → Sense
labelled_sense view label_of = record { view = view; replaced = λ place by. ⊥; Stands = λ d l. label_of d ≡ Some l }

abbrev pub outside_meant : (Denoted → Option Label) → Denoted → Option Meant
outside_meant label_of (Bound scope name) = option_map Known (label_of (Bound scope name))
outside_meant label_of (Global x) = Some (Unbound x)

abbrev pub meant_by : (Denoted → Option Label) → Denoted → Option ℕ → Option Meant
meant_by label_of d (Some n) = Some (Inside n)
meant_by label_of d None = outside_meant label_of d

-- what a name at a place means
abbrev pub meant_at : View → (Denoted → Option Label) → List Denoted → ℕ → Option Meant
meant_at view label_of inner place = option_and_then (λ d. meant_by label_of d (position (same_denoted d) inner)) (denoted_at view.reading view.kind view.tree place)

abbrev pub with_name : (Meant → List Mark) → Option Meant → Option (List Mark) → Option (List Mark)
with_name marks meant more = option_and_then (λ it. option_map (λ rest. marks it ++ rest) more) meant

-- the meaning, where each name has one
abbrev pub computed : View → (Denoted → Option Label) → List Denoted → List Element → Option (List Mark)
computed view label_of inner [] = Some []
computed view label_of inner (written x ∷ rest) = None
computed view label_of inner (taken place (h.Open field head) ∷ rest) = option_map (λ more. begin_marks view.tree place field (path_at view.tree place) head ++ more) (computed view label_of inner rest)
computed view label_of inner (taken place h.Close ∷ rest) = option_map (λ more. end_marks view.tree (path_at view.tree place) ++ more) (computed view label_of inner rest)
computed view label_of inner (taken place (h.Hole field) ∷ rest) = option_map (λ more. Empty field ∷ more) (computed view label_of inner rest)
computed view label_of inner (taken place (h.Ident field sym ctxt IsWord) ∷ rest) = option_map (λ more. Word field sym ∷ more) (computed view label_of inner rest)
computed view label_of inner (taken place (h.Ident field sym ctxt Binding) ∷ rest) = with_name (name_marks field (path_at view.tree place) sym) (meant_at view label_of inner place) (computed view label_of inner rest)
computed view label_of inner (taken place (h.Ident field sym ctxt Reference) ∷ rest) = with_name (name_marks field (path_at view.tree place) sym) (meant_at view label_of inner place) (computed view label_of inner rest)

-- What is computed is the meaning.

some_is : {A : Type 0} (a b : A) → Some a ≡ Some b → b ≡ a
some_is a b e = cc

none_is_some : {A : Type 0} (a : A) → None ≡ Some a → ⊥
none_is_some a e = cc

mapped : {A B : Type 0} (f : A → B) (o : Option A) (b : B) → option_map f o ≡ Some b → (a : A) × (o ≡ Some a) × (b ≡ f a)
mapped f None b e = absurd (none_is_some b e)
mapped f (Some a) b e = (a, refl, some_is (f a) b e)

chained : {A B : Type 0} (f : A → Option B) (o : Option A) (b : B) → option_and_then f o ≡ Some b → (a : A) × (o ≡ Some a) × (f a ≡ Some b)
chained f None b e = absurd (none_is_some b e)
chained f (Some a) b e = (a, refl, e)

means_it : (view : View) (label_of : Denoted → Option Label) (inner : List Denoted) (d : Denoted) (at : Option ℕ) (meant : Meant) → position (same_denoted d) inner ≡ at → meant_by label_of d at ≡ Some meant → NameMeans (labelled_sense view label_of) inner d meant
means_it view label_of inner d (Some n) meant is e = subst (λ m. NameMeans (labelled_sense view label_of) inner d m) (sym (some_is (Inside n) meant e)) (inside is)
means_it view label_of inner (Global x) None meant is e = subst (λ m. NameMeans (labelled_sense view label_of) inner (Global x) m) (sym (some_is (Unbound x) meant e)) unbound
means_it view label_of inner (Bound scope name) None meant is e =
    let (l, found, same) = mapped Known (label_of (Bound scope name)) meant e in
    subst (λ m. NameMeans (labelled_sense view label_of) inner (Bound scope name) m) (sym same) (outside is found)

pub is_meaning : (view : View) (label_of : Denoted → Option Label) (inner : List Denoted) (elements : List Element) (marks : List Mark) → computed view label_of inner elements ≡ Some marks → Means (labelled_sense view label_of) inner elements marks
is_meaning view label_of inner [] marks e = subst (λ ms. Means (labelled_sense view label_of) inner [] ms) (sym (some_is [] marks e)) finished
is_meaning view label_of inner (written x ∷ rest) marks e = absurd (none_is_some marks e)
is_meaning view label_of inner (taken place (h.Open field head) ∷ rest) marks e =
    let (more, found, same) = mapped (λ ms. begin_marks view.tree place field (path_at view.tree place) head ++ ms) (computed view label_of inner rest) marks e in
    subst (λ ms. Means (labelled_sense view label_of) inner (taken place (h.Open field head) ∷ rest) ms) (sym same) (begun (λ by none. none) (is_meaning view label_of inner rest more found))
is_meaning view label_of inner (taken place h.Close ∷ rest) marks e =
    let (more, found, same) = mapped (λ ms. end_marks view.tree (path_at view.tree place) ++ ms) (computed view label_of inner rest) marks e in
    subst (λ ms. Means (labelled_sense view label_of) inner (taken place h.Close ∷ rest) ms) (sym same) (ended (is_meaning view label_of inner rest more found))
is_meaning view label_of inner (taken place (h.Hole field) ∷ rest) marks e =
    let (more, found, same) = mapped (λ ms. Empty field ∷ ms) (computed view label_of inner rest) marks e in
    subst (λ ms. Means (labelled_sense view label_of) inner (taken place (h.Hole field) ∷ rest) ms) (sym same) (empty (is_meaning view label_of inner rest more found))
is_meaning view label_of inner (taken place (h.Ident field sym' ctxt IsWord) ∷ rest) marks e =
    let (more, found, same) = mapped (λ ms. Word field sym' ∷ ms) (computed view label_of inner rest) marks e in
    subst (λ ms. Means (labelled_sense view label_of) inner (taken place (h.Ident field sym' ctxt IsWord) ∷ rest) ms) (sym same) (word (is_meaning view label_of inner rest more found))
is_meaning view label_of inner (taken place (h.Ident field sym' ctxt Binding) ∷ rest) marks e =
    let (meant, its, after) = chained (λ it. option_map (λ ms. name_marks field (path_at view.tree place) sym' it ++ ms) (computed view label_of inner rest)) (meant_at view label_of inner place) marks e in
    let (more, found, same) = mapped (λ ms. name_marks field (path_at view.tree place) sym' meant ++ ms) (computed view label_of inner rest) marks after in
    let (d, denotes, it) = chained (λ d. meant_by label_of d (position (same_denoted d) inner)) (denoted_at view.reading view.kind view.tree place) meant its in
    subst (λ ms. Means (labelled_sense view label_of) inner (taken place (h.Ident field sym' ctxt Binding) ∷ rest) ms) (sym same) (named d meant denotes (means_it view label_of inner d (position (same_denoted d) inner) meant refl it) (is_meaning view label_of inner rest more found))
is_meaning view label_of inner (taken place (h.Ident field sym' ctxt Reference) ∷ rest) marks e =
    let (meant, its, after) = chained (λ it. option_map (λ ms. name_marks field (path_at view.tree place) sym' it ++ ms) (computed view label_of inner rest)) (meant_at view label_of inner place) marks e in
    let (more, found, same) = mapped (λ ms. name_marks field (path_at view.tree place) sym' meant ++ ms) (computed view label_of inner rest) marks after in
    let (d, denotes, it) = chained (λ d. meant_by label_of d (position (same_denoted d) inner)) (denoted_at view.reading view.kind view.tree place) meant its in
    subst (λ ms. Means (labelled_sense view label_of) inner (taken place (h.Ident field sym' ctxt Reference) ∷ rest) ms) (sym same) (named d meant denotes (means_it view label_of inner d (position (same_denoted d) inner) meant refl it) (is_meaning view label_of inner rest more found))
