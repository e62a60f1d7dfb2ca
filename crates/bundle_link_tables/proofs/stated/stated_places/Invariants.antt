-- The places that were passed are marked, and what the next one lies in is known.
use Rattle.std.proofs.Common.{◌≡◌, ℕ, ◌<◌, ◌≤◌, length, map}
use Rattle.bundle_syntax.specs.Item.{item_of}
use Rattle.bundle_rules.specs.Places.{path_at, spot_before}
use Rattle.bundle_tree_places.specs.Stated.{is_in_statement}
use Rattle.bundle_link_tables.specs.Free.{is_place_marked}
use Rattle.bundle_link_tables.specs.Within.{IsWithinItem}
use Rattle.bundle_link_tables.proofs.stated.stated_places.Given as goal

abbrev pub invariant-loop-place : goal.invariant-loop-place
invariant-loop-place l = record {
  long : length l.stated.items ≡ length l.pieces;
  marked : (p : ℕ) → p < l.place → is_place_marked l.stated.items p ≡ is_in_statement (path_at (map item_of l.pieces) p);
  within : IsWithinItem l.within (spot_before (map item_of l.pieces) l.place).path;
  deep : l.within.depth ≤ l.place;
}
