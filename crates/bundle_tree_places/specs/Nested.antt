-- Awaits outside functions, by the nodes that are open (ECMA-262, 15.8 and 16.2).
use Rattle.std.specs.Prelude.{ℕ, ◌==◌, ◌&&◌, ◌||◌, Bool, true, false, not, List, [], ◌∷◌, if◌then◌else◌}
use Rattle.bundle_syntax.specs.Item as h
use Rattle.bundle_syntax.specs.Item.{Item, Head}
use Rattle.bundle_rules.specs.Awaits.{awaits}
use Rattle.bundle_tree_places.specs.declared.awaits.Standing.{Standing}
use Rattle.bundle_tree_places.specs.declared.awaits.Standing.TheVariants.{Outside, Inside, KeyOutside}

-- whether what stands in this field of a node stands in a function
abbrev pub is_inside : Standing → ℕ → Bool
is_inside Outside field = false
is_inside Inside field = true
is_inside KeyOutside field = not (field == 0)

-- how what is directly in such a node stands, which stands outside functions itself
abbrev pub standing_in : Head → Standing
standing_in (h.Function is_generator is_async) = Inside
standing_in h.Constructor = Inside
standing_in (h.ArrowExpr is_async) = Inside
standing_in h.GetterProp = KeyOutside
standing_in h.SetterProp = KeyOutside
standing_in _ = Outside

-- how what is directly in such a node stands, if the node stands in a function or not
abbrev pub standing_of : Head → Bool → Standing
standing_of head inside = if inside then Inside else standing_in head

-- whether what stands in this field of the innermost node stands in a function
abbrev pub is_first_inside : List Standing → ℕ → Bool
is_first_inside [] field = false
is_first_inside (around ∷ outer) field = is_inside around field

-- without the innermost node
abbrev pub without_first : List Standing → List Standing
without_first (around ∷ next ∷ outer) = next ∷ outer
without_first _ = Outside ∷ []

-- the open nodes behind an element
abbrev pub nested_past : List Standing → Item → List Standing
nested_past nested (h.Open field head) = standing_of head (is_first_inside nested field) ∷ nested
nested_past nested h.Close = without_first nested
nested_past nested (h.Ident field sym ctxt role) = nested
nested_past nested (h.Hole field) = nested

-- whether an `await` outside functions begins with an element
abbrev pub awaits_at : List Standing → Item → Bool
awaits_at nested (h.Open field head) = awaits head && not (is_first_inside nested field)
awaits_at nested _ = false

-- the same of elements
abbrev pub awaits_in : List Standing → List Item → Bool
awaits_in nested [] = false
awaits_in nested (x ∷ rest) = awaits_at nested x || awaits_in (nested_past nested x) rest
