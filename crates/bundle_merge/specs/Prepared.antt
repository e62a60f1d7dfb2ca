-- The prepared items of modules, by the places of these on a list.
use Rattle.std.specs.Prelude.{ℕ, zero, suc, List, [], ◌∷◌, ◌++◌, map}
use Rattle.bundle_syntax.specs.Item.{Item}
use Rattle.bundle_rules.specs.Parts.{Owned, items_in}

-- the lists with one more item at the end of that at a place, if there is one
abbrev pub with_one : ℕ → List Item → List (List (List Item)) → List (List (List Item))
with_one place item [] = []
with_one zero item (its ∷ lists) = (its ++ item ∷ []) ∷ lists
with_one (suc place) item (its ∷ lists) = its ∷ with_one place item lists

-- the items of each of these modules
abbrev pub items_of_each : List Owned → List ℕ → List (List (List Item))
items_of_each owned ids = map (items_in owned) ids
