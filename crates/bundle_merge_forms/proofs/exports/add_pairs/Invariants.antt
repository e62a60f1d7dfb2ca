-- The pairs so far are those that were there, and those of the specifiers passed.
use Rattle.std.proofs.Common.{◌≡◌, ◌++◌, flat_map, map, take}
use Rattle.bundle_merge_injected.specs.Listed.{pair_of}
use Rattle.bundle_merge_forms.specs.Wrapped.{given_by}
use Rattle.bundle_merge_forms.proofs.exports.add_pairs.Given as goal

abbrev pub invariant-loop-specifier : goal.invariant-loop-specifier
invariant-loop-specifier l = map pair_of l.pairs.items ≡ map pair_of l.initial.pairs.items ++ flat_map given_by (take l.specifier-index l.specifiers)
