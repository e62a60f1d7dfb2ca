-- The pairs so far are those of the names passed.
use Rattle.std.proofs.Common.{◌≡◌, map, take}
use Rattle.bundle_merge_injected.specs.Listed.{pair_of}
use Rattle.bundle_merge_forms.specs.Named.{prop_of}
use Rattle.bundle_merge_forms.proofs.item.pairs_of.Given as goal

abbrev pub invariant-loop-prop : goal.invariant-loop-prop
invariant-loop-prop l = map pair_of l.pairs.items ≡ map prop_of (take l.prop-index l.props)
