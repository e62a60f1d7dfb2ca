-- The identifiers of a group that denote a binding of the top, in one list.
use Rattle.std.specs.Prelude.{ℕ, ◌+◌, ◌||◌, List, [], ◌∷◌, ◌++◌, Option, option_map, filter_map}
use Rattle.bundle_rules.specs.Order.{Mention}
use Rattle.bundle_order.specs.declared.seen.Seen.{Seen}

-- an identifier of item s that denotes the binding b
abbrev pub seen_of : ℕ → Mention → ℕ → Seen
seen_of s m b = record {
  item = s;
  binding = b;
  declares = m.declares;
  is_later = m.later;
  fills = m.assigned || m.argument;
  sets_up = m.chain || m.prototype;
  is_empty = m.valueless;
}

-- the same, if it denotes one
abbrev pub seen_as : ℕ → Mention → Option Seen
seen_as s m = option_map (seen_of s m) m.top

-- those of items that are counted from s on, one item after the other
abbrev pub seen_from : ℕ → List (List Mention) → List Seen
seen_from s [] = []
seen_from s (mentions ∷ rest) = filter_map (seen_as s) mentions ++ seen_from (s + 1) rest
