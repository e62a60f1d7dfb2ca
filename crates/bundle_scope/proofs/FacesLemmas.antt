-- The same identifiers in other contexts.
use Rattle.std.proofs.Common.{◌≡◌, ◌⊎◌, ℕ, Some, subst, false, not, List, [], ◌∷◌, length, map, bytes_eq, inl, inr, arith, refl, ap, sym, ◌∙◌}
use Rattle.std.proofs.lemmas.Slice.Eq.{bytes_eq-Decides}
use Rattle.bundle_syntax.specs.Item.{Item}
use Rattle.bundle_rules.specs.Places.{Occurrence as Place, occurrences}
use Rattle.bundle_rules.specs.Scopes.{ModuleKind}
use Rattle.bundle_rules.specs.Nodes.{Text}
use Rattle.bundle_rules.specs.Idents as terms
use Rattle.bundle_rules.specs.Idents.{Ident, idents}
use Rattle.bundle_rules.specs.Rebuilds.{Change, changes_to, change_to, listed, rebuilt}
use Rattle.bundle_rules.specs.Renamed.{IsResolvedFrom}
use Rattle.bundle_tree_places.specs.declared.mark.OccurrenceRef.{OccurrenceRef}
use Rattle.bundle_tree_places.specs.Marks.{ident_of, listed_of}
use Rattle.bundle_tree_places.proofs.RenameLemmas.{idents-listed}
use Rattle.bundle_scope_names.specs.declared.contexts.ContextsGiven.{ContextsGiven}
use Rattle.bundle_scope_names.specs.Resolution.{AreContextsFit, ResolvesFit, tree_with, with_contexts}
use Rattle.bundle_scope.specs.Faces.{in_contexts}

-- a change that keeps the symbol spells nothing out
pub symbol-kept : (x : Text) (old new : ℕ) → (let change : Change = record { ident = (x, new); is_spelled_out = false } in change) ≡ change_to (x, old) (x, new)
symbol-kept x old new =
    let short : not (bytes_eq x x) ≡ false = ap not ((bytes_eq-Decides x x).1 refl) in
    λ i. record { ident = (x, new); is_spelled_out = sym short i }

-- where nothing is left of one of the lists, there are no more changes
pub none-left : {A : Type 0} (old : A → Ident) (xs : List A) (contexts : List ℕ) → (length xs ≡ 0) ⊎ (length contexts ≡ 0) → changes_to (map old xs) (in_contexts (map old xs) contexts) ≡ []
none-left old [] contexts none = refl
none-left old (x ∷ xs) [] none = refl
none-left old (x ∷ xs) (c ∷ cs) (inl none) = absurd (omega (arith, none))
none-left old (x ∷ xs) (c ∷ cs) (inr none) = absurd (omega (arith, none))

-- identifiers of occurrences in other contexts
in-contexts : (os : List Place) (contexts : List ℕ) → in_contexts (map terms.ident_of os) contexts ≡ with_contexts os contexts
in-contexts [] contexts = refl
in-contexts (o ∷ os) [] = refl
in-contexts (o ∷ os) (c ∷ cs) = ap (λ (rest : List Ident). (o.sym, c) ∷ rest) (in-contexts os cs)

-- what is rebuilt by these changes is the tree with these contexts
pub tree-with : (tree : List Item) (all : List OccurrenceRef) (contexts : List ℕ) (changes : List Change) → map listed_of all ≡ listed tree → changes ≡ changes_to (map (λ o. ident_of o.id) all) (in_contexts (map (λ o. ident_of o.id) all) contexts) → rebuilt tree changes ≡ tree_with tree contexts
tree-with tree all contexts changes listed_is is =
    ap (rebuilt tree)
    (is
    ∙ ap (λ (old : List Ident). changes_to old (in_contexts old contexts)) (idents-listed tree all listed_is)
    ∙ ap (changes_to (idents tree)) (in-contexts (occurrences tree) contexts))

-- what is rebuilt by these changes is resolved, where the contexts resolve the tree
pub resolved-so : (kind : ModuleKind) (local next later : ℕ) (tree list made : List Item) (resolution : ContextsGiven) (all : List OccurrenceRef) (changes : List Change) → ResolvesFit kind list local next (Some resolution) → list ≡ tree → map listed_of all ≡ listed tree → changes ≡ changes_to (map (λ o. ident_of o.id) all) (in_contexts (map (λ o. ident_of o.id) all) resolution.contexts.items) → made ≡ rebuilt tree changes → later ≡ resolution.next → AreContextsFit local next → IsResolvedFrom kind local next later tree made
resolved-so kind local next later tree list made resolution all changes resolves same listed_is is made_is later_is fit =
    let contexts : List ℕ = resolution.contexts.items in
    let its : IsResolvedFrom kind local next resolution.next tree (tree_with tree contexts) = (subst (λ t. ResolvesFit kind t local next (Some resolution)) same resolves fit).1 in
    subst (λ t. IsResolvedFrom kind local next later tree t) (sym (made_is ∙ tree-with tree all contexts changes listed_is is))
    (subst (λ n. IsResolvedFrom kind local next n tree (tree_with tree contexts)) (sym later_is) its)
