-- The places that were passed are told, and the nodes that are open are known.
use Rattle.std.proofs.Common.{◌≡◌, ℕ, ◌<◌, length, get_or, map, reverse}
use Rattle.bundle_syntax.specs.Item.{item_of}
use Rattle.bundle_rules.specs.Places.{spot_before}
use Rattle.bundle_tree_places.specs.Placed.{AreOpen, IsTold, no_told}
use Rattle.bundle_tree_places.proofs.places.told_places.Given as goal

abbrev pub invariant-loop-place : goal.invariant-loop-place
invariant-loop-place l = record {
  long : length l.told.items ≡ l.place;
  told : (p : ℕ) → p < l.place → IsTold (map item_of l.pieces) p (get_or l.told.items p no_told);
  opens : AreOpen (reverse l.frames.items) (spot_before (map item_of l.pieces) l.place).path;
}
