-- The pairs so far are those of the linked names passed.
use Rattle.std.proofs.Common.{◌≡◌, map, take}
use Rattle.bundle_merge_injected.specs.Listed.{pair_of}
use Rattle.bundle_merge_items.specs.Added as added
use Rattle.bundle_merge_items.proofs.merge.pairs_of.Given as goal

abbrev pub invariant-loop-name : goal.invariant-loop-name
invariant-loop-name l =
    map pair_of l.pairs.items ≡ added.linked_pairs l.names (take l.name-index l.linked)
