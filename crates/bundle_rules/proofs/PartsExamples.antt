-- Examples of lists of items by module.
use Rattle.std.specs.Prelude.{◌≡◌, true, false, ◌==◌, List, [], ◌∷◌, ◌++◌, codes}
use Rattle.std.proofs.Common.{refl}
use Rattle.bundle_syntax.specs.Item.{Item}
use Rattle.bundle_rules.specs.Parts.{Parts, no_parts, parts_of, in_order, body_of, with_prepended, with_appended, with_all_appended, joined, with_lists, with_items, with_only}
use Rattle.bundle_rules.proofs.Trees.{module_of, uses, runs}

-- `a;`, `b;` and `c;`
abbrev a : List Item
a = runs (uses 0 (codes "a"))

abbrev b : List Item
b = runs (uses 0 (codes "b"))

abbrev c : List Item
c = runs (uses 0 (codes "c"))

-- a and c of module 1 and b of module 2, in front
abbrev three : Parts
three = with_prepended (with_prepended (with_prepended no_parts (1, a)) (2, b)) (1, c)

-- an item stands behind the last one of its module
by_modules_in_turn : in_order three ≡ (1, a) ∷ (1, c) ∷ (2, b) ∷ []
by_modules_in_turn = refl

-- what is put in front stands before the body, and what is put behind after it, also of other modules
parts_in_turn : in_order (with_appended (with_prepended (parts_of 1 (a ∷ [])) (2, b)) (3, c)) ≡ (2, b) ∷ (1, a) ∷ (3, c) ∷ []
parts_in_turn = refl

-- several are put behind in turn
several : in_order (with_all_appended (parts_of 1 (a ∷ [])) ((2, b) ∷ (1, c) ∷ (2, a) ∷ [])) ≡ (1, a) ∷ (2, b) ∷ (2, a) ∷ (1, c) ∷ []
several = refl

-- each part goes behind the same part
joined_by_parts : in_order (joined (with_appended (parts_of 1 (a ∷ [])) (1, c)) (with_prepended (parts_of 2 (b ∷ [])) (2, a))) ≡ (2, a) ∷ (1, a) ∷ (2, b) ∷ (1, c) ∷ []
joined_by_parts = refl

-- each module's list of items is mapped as a whole: module 1 gives none, and module 2 its items twice
lists_mapped : in_order (with_lists (λ m items. elim (m == 1) [ true ↦ [] | false ↦ items ++ items ]) three) ≡ (2, b) ∷ (2, b) ∷ []
lists_mapped = refl

-- each item is mapped, and stays with its module
items_mapped : in_order (with_items (λ m item. item ++ a) three) ≡ (1, a ++ a) ∷ (1, c ++ a) ∷ (2, b ++ a) ∷ []
items_mapped = refl

-- those of module 1 alone stay
some_stay : in_order (with_only (λ m item. m == 1) three) ≡ (1, a) ∷ (1, c) ∷ []
some_stay = refl

-- the items as one module
as_module : body_of three ≡ module_of (a ++ c ++ b)
as_module = refl
