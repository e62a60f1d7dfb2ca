-- The changes so far are those of the occurrences passed.
use Rattle.std.proofs.Common.{◌≡◌, map, take}
use Rattle.bundle_rules.specs.Rebuilds.{change_by}
use Rattle.bundle_tree_places.specs.Changes.{change_of}
use Rattle.bundle_tree_places.specs.Marks.{ident_of}
use Rattle.bundle_scope.proofs.rename.changes_by.Given as goal

abbrev pub invariant-loop-occurrence : goal.invariant-loop-occurrence
invariant-loop-occurrence l = map change_of l.changes.items ≡ map (λ o. change_by l.renaming (ident_of o.id)) (take l.occurrence-index l.listed)
