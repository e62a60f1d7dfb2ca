-- A node around a place, and the occurrence that an identifier is.
use Rattle.std.specs.Prelude.{ℕ}
use Rattle.bundle_syntax.specs.Item.{Head}
use Rattle.bundle_syntax.specs.declared.piece.Role.{Role}
use Rattle.bundle_rules.specs.Nodes.{Text}
use Rattle.bundle_rules.specs.Places.{Around, Occurrence, Spot, in_field}

-- the node of this head that begins there and stands in this field
abbrev pub around_spot : Head → ℕ → ℕ → Around
around_spot head begins field = record { head = head; begins = begins; field = field }

-- the occurrence that an identifier is
abbrev pub occurrence_here : Spot → ℕ → Text → ℕ → Role → Occurrence
occurrence_here s field x ctxt role =
    record { place = s.place; sym = x; ctxt = ctxt; role = role; path = in_field field s.path }
