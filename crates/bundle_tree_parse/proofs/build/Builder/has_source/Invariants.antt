-- What is ahead says whether there is a source.
use Rattle.std.proofs.Common.{◌≡◌, ◌≤◌, zero, map, drop}
use Rattle.bundle_syntax.specs.Item.{item_of}
use Rattle.bundle_tree_parse.specs.Parse.{has_source}
use Rattle.bundle_tree_parse.proofs.build.Builder.has_source.Given as goal

abbrev pub invariant-loop-place : goal.invariant-loop-place
invariant-loop-place l =
    record {
      low : l.depth ≤ l.place;
      ahead : has_source zero (map item_of l.pieces) ≡ has_source l.depth (map item_of (drop l.place l.pieces));
    }
