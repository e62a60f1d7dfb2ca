-- The modules of the items that were passed, with those of the others, are all.
use Rattle.std.proofs.Common.{◌≡◌, ◌++◌, map}
use Rattle.bundle_merge_modules.specs.Parts.{all_in_order}
use Rattle.bundle_merge_modules.proofs.sort.owners_in.Given as goal

abbrev pub invariant-loop-id : goal.invariant-loop-id
invariant-loop-id l = l.owners.items ++ map (λ pair. pair.0) l.id-iterator ≡ map (λ pair. pair.0) (all_in_order l.parts)
