-- The pairs so far are those of the items passed.
use Rattle.std.proofs.Common.{◌≡◌, flat_map, map, take}
use Rattle.bundle_merge_injected.specs.Listed.{pair_of}
use Rattle.bundle_merge_forms.specs.Wrapped.{exported_in}
use Rattle.bundle_merge_forms.proofs.exports.pairs_in.Given as goal

abbrev pub invariant-loop-item : goal.invariant-loop-item
invariant-loop-item l = map pair_of l.pairs.items ≡ flat_map exported_in (take l.item-index l.items)
