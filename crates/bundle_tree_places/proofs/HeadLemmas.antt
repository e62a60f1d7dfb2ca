-- Whether a list has a node of a kind is asked of its elements one by one.
use Rattle.std.proofs.Common.{◌≡◌, Bool, true, false, ◌||◌, List, [], ◌∷◌, map, refl}
use Rattle.std.specs.List.{list_any}
use Rattle.bundle_syntax.specs.declared.piece.Piece.{Piece}
use Rattle.bundle_syntax.specs.declared.piece.Piece.TheVariants as p
use Rattle.bundle_syntax.specs.Item.{Head, head_of, item_of}
use Rattle.bundle_rules.specs.Nodes.{has_head}
use Rattle.bundle_tree_places.specs.Heads.{begins_here}

-- true where the first is, and else the second
abbrev first_or : Bool → Bool → Bool
first_or b more = elim b [ true ↦ true | false ↦ more ]

first_or-either : (b others same : Bool) → others ≡ same → (b || others) ≡ first_or b same
first_or-either true others same e = refl
first_or-either false others same e = e

pub has_head_any : (test : Head → Bool) (pieces : List Piece) → list_any (λ x. begins_here test (item_of x)) pieces ≡ has_head test (map item_of pieces)
has_head_any test [] = refl
has_head_any test (p.Open field node ∷ rest) = first_or-either (test (head_of node)) _ _ (has_head_any test rest)
has_head_any test (p.Ident field sym ctxt role ∷ rest) = has_head_any test rest
has_head_any test (p.Hole field ∷ rest) = has_head_any test rest
has_head_any test (p.Close ∷ rest) = has_head_any test rest
