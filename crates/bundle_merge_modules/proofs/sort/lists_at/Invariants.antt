-- The lists of the items at the places that were passed.
use Rattle.std.proofs.Common.{◌≡◌, map, take}
use Rattle.bundle_syntax.specs.Item.{item_of}
use Rattle.bundle_merge_modules.specs.Placed.{tree_at, trees_lent}
use Rattle.bundle_merge_modules.proofs.sort.lists_at.Given as goal

abbrev pub invariant-loop-place : goal.invariant-loop-place
invariant-loop-place l = map (λ v. map item_of v.items) l.lists.items ≡ map (tree_at (trees_lent l.items)) (take l.place-index l.places)
