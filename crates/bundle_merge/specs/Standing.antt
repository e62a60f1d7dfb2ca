-- The contexts that stand in a tree.
use Rattle.std.specs.Prelude.{◌<◌, ℕ, List, Contains}
use Rattle.bundle_syntax.specs.Item.{Item}
use Rattle.bundle_rules.specs.Places.{Occurrence, occurrences}

-- the context of each binding and each reference is below this number
abbrev pub HasContextsBelow : ℕ → List Item → Type 0
HasContextsBelow n tree = (o : Occurrence) → Contains (occurrences tree) o → o.ctxt < n
