-- What is left to be passed awaits as the whole does.
use Rattle.std.proofs.Common.{◌≡◌, ◌∷◌, [], map, drop, reverse}
use Rattle.bundle_syntax.specs.Item.{item_of}
use Rattle.bundle_tree_places.specs.declared.awaits.Standing.TheVariants.{Outside}
use Rattle.bundle_tree_places.specs.Nested.{awaits_in}
use Rattle.bundle_tree_places.proofs.awaits.has_await.Given as goal

abbrev pub invariant-loop-piece : goal.invariant-loop-piece
invariant-loop-piece l = awaits_in (l.around ∷ reverse l.outer.items) (map item_of (drop l.piece-index l.pieces)) ≡ awaits_in (Outside ∷ []) (map item_of l.pieces)
