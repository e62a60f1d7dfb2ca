-- Whether a list is one of whole nodes as trees list them, by the nodes that are open.
use Rattle.std.specs.Prelude.{ℕ, ◌==◌, ◌&&◌, Bool, true, List, [], ◌∷◌}
use Rattle.bundle_syntax.specs.declared.piece.Role.{Role}
use Rattle.bundle_syntax.specs.Item as h
use Rattle.bundle_syntax.specs.Item.{Item}
use Rattle.bundle_merge_theory.specs.noted.Listed.{Stand, Other, InReadOrCall, AtTarget, is_reference_role, first_stand, next_to}

abbrev pub fits_name : Stand → Role → Bool
fits_name InReadOrCall role = is_reference_role role
fits_name stand role = true

abbrev pub fits_node : Stand → ℕ → Bool
fits_node AtTarget field = field == 1
fits_node stand field = true

-- elements of which the first stands there, where behind the ends of the open nodes elements stand
-- there
abbrev pub are_listed : Stand → List Stand → List Item → Bool
are_listed stand outer [] = true
are_listed stand outer (h.Open field head ∷ rest) =
    fits_node stand field && are_listed (first_stand head) (next_to stand ∷ outer) rest
are_listed stand outer (h.Ident field x ctxt role ∷ rest) =
    fits_name stand role && are_listed (next_to stand) outer rest
are_listed stand outer (h.Hole field ∷ rest) = are_listed (next_to stand) outer rest
are_listed stand [] (h.Close ∷ rest) = are_listed Other [] rest
are_listed stand (next ∷ outer) (h.Close ∷ rest) = are_listed next outer rest
