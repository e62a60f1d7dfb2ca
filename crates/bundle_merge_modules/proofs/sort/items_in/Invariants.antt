-- The items that were passed, with the others, are all.
use Rattle.std.proofs.Common.{◌≡◌, ◌++◌, map}
use Rattle.bundle_merge_modules.specs.Parts.{all_in_order}
use Rattle.bundle_merge_modules.proofs.sort.items_in.Given as goal

abbrev pub invariant-loop-item : goal.invariant-loop-item
invariant-loop-item l = map (λ item. item.now) l.items.items ++ map (λ pair. pair.1) l.item-iterator ≡ map (λ pair. pair.1) (all_in_order l.parts)
