-- The pairs of the items that were passed, with those of the others, are all.
use Rattle.std.proofs.Common.{◌≡◌, ◌++◌, map}
use Rattle.bundle_merge_modules.specs.Held.{trees_of}
use Rattle.bundle_rules.specs.Parts.{in_order}
use Rattle.bundle_marks.specs.Idents.{pair_named}
use Rattle.bundle_merge_modules.proofs.InlinedLemmas.{made_by}
use Rattle.bundle_merge_modules.proofs.inline.pairs_in.Given as goal

abbrev pub invariant-loop-item : goal.invariant-loop-item
invariant-loop-item l = map pair_named l.pairs.items ++ made_by (trees_of l.item-iterator) ≡ made_by (in_order l.modules)
