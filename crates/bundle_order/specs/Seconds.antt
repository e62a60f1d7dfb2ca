-- Whether something is in the second field of a node.
use Rattle.std.specs.Prelude.{ℕ, Bool, true, not, is_some, Option}
use Rattle.bundle_syntax.specs.Item as h
use Rattle.bundle_syntax.specs.Item.{Item}

-- whether nothing is in the second field of the node that begins with an element, where this stands
-- first in it
abbrev pub nothing_by : Item → Option ℕ → Bool
nothing_by (h.Open field head) second = not (is_some second)
nothing_by (h.Ident field sym ctxt role) second = true
nothing_by (h.Hole field) second = true
nothing_by h.Close second = true
