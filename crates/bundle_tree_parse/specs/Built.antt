-- What a method of the builder makes of a list: it has just the pieces that were taken, and it is
-- refused, but for memory, only where the list does not begin so.
use Rattle.std.specs.Prelude.{◌≡◌, ℕ, List, [], ◌∷◌, ◌++◌, Option, Some, None, Result, Ok, MatchResult, OnOk, IfErr}
use Rattle.bundle_syntax.specs.Item.{Item, Head, Open, Close}
use Rattle.bundle_tree_parse.specs.declared.build.BuildError.{BuildError}
use Rattle.bundle_tree_parse.specs.declared.build.BuildError.TheVariants.{Form}
use Rattle.bundle_tree_parse.specs.Sorts.{Holding, Fields, Refused}
use Rattle.bundle_tree_parse.specs.Parse.{after_close}

-- what stands in a place, of which `left` is what is to be left of the list
abbrev pub Builds : {T : Type 0} → Result T BuildError → (T → List Item) →
    Option (List Item) → List Item → List Item → Type 0
Builds result items left old new =
    MatchResult result
    (λ made. (left ≡ Some new) × (old ≡ items made ++ new))
    (λ why. why ≡ Form → left ≡ None)

-- what stands inside of a node with this head
abbrev pub BuildsNode : {T : Type 0} → Result T BuildError → (ℕ → T → List Item) → Head →
    Option (List Item) → List Item → List Item → Type 0
BuildsNode result items head left old new =
    MatchResult result
    (λ made. (left ≡ Some new) ×
    ((field : ℕ) (rest : List Item) →
    new ≡ Close ∷ rest → Open field head ∷ old ≡ items field made ++ rest))
    (λ why. why ≡ Form → left ≡ None)

-- a node with this head that holds nothing, where it may hold `kept`
abbrev pub BuildsLeaf : {T : Type 0} → Result T BuildError → (ℕ → T → List Item) → Head →
    Holding → Type 0
BuildsLeaf result items head kept =
    MatchResult result
    (λ made. (kept ≡ Fields []) ×
    ((field : ℕ) (rest : List Item) →
    Open field head ∷ Close ∷ rest ≡ items field made ++ rest))
    (λ why. why ≡ Form → kept ≡ Refused)

-- what was made inside of a node, where the node ends there
abbrev pub Leaves : {T : Type 0} → Result T BuildError → Result T BuildError →
    List Item → List Item → Type 0
Leaves made result old new =
    MatchResult result
    (λ it. (made ≡ Ok it) × (old ≡ Close ∷ new))
    (λ why. why ≡ Form → OnOk made (after_close old ≡ None) × IfErr made (λ first. first ≡ Form))
