-- What is written so far.
use Rattle.std.proofs.Common.{◌≡◌, ◌++◌, map, take}
use Rattle.std.specs.List.{flat_map}
use Rattle.bundle_merge_injected.specs.Listed as listed
use Rattle.bundle_merge_injected.specs.Listed.{pair_of}
use Rattle.bundle_merge_injected.proofs.list.PieceWriter.load_pattern.Given as goal

abbrev pub invariant-loop-pair : goal.invariant-loop-pair
invariant-loop-pair l = l.self ≡ l.initial.self ++ flat_map listed.load_property (map pair_of (take l.pair-index l.names))
