-- The occurrences that were passed have their steps.
use Rattle.std.proofs.Common.{◌≡◌, map, take}
use Rattle.bundle_syntax.specs.Item.{item_of}
use Rattle.bundle_merge_names.specs.Own.{rewrite_told, own_told}
use Rattle.bundle_merge_names.proofs.body.own_rewrites.Given as goal

abbrev pub invariant-loop-occurrence : goal.invariant-loop-occurrence
invariant-loop-occurrence l =
    map rewrite_told l.rewrites.items
    ≡ map (own_told (map item_of l.pieces) l.denotations l.scopes) (take l.occurrence-index l.denotations.occurrences.items)
