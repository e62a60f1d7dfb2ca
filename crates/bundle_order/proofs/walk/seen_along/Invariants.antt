-- Those of the elements passed are added, and the nodes that are open are known.
use Rattle.std.proofs.Common.{◌≡◌, ℕ, ◌++◌, map, get_or, take, reverse}
use Rattle.bundle_syntax.specs.Item.{item_of}
use Rattle.bundle_rules.specs.Places.{occurrences, spot_before}
use Rattle.bundle_order.specs.Told.{no_binding_told}
use Rattle.bundle_order.specs.Open.{AreItemFrames}
use Rattle.bundle_order.specs.Cut.{seen_among}
use Rattle.bundle_order.proofs.walk.seen_along.Given as goal

abbrev pub invariant-loop-place : goal.invariant-loop-place
invariant-loop-place l = record {
  seen : l.seen.items ≡ l.fn.seen.items ++ seen_among l.number (λ (p : ℕ). get_or l.told p no_binding_told) (map item_of l.item) (occurrences (take l.place (map item_of l.item)));
  opens : AreItemFrames (map item_of l.item) (λ (p : ℕ). get_or l.told p no_binding_told) (reverse l.frames.items) (spot_before (map item_of l.item) l.place).path;
  place : (spot_before (map item_of l.item) l.place).place ≡ l.place;
}
