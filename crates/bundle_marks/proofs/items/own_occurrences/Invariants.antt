-- The occurrences so far are those passed.
use Rattle.std.proofs.Common.{◌≡◌, map, take}
use Rattle.bundle_tree_places.specs.Marks.{listed_of as lent_as}
use Rattle.bundle_marks.specs.Owned.{occurrence_listed}
use Rattle.bundle_marks.proofs.items.own_occurrences.Given as goal

abbrev pub invariant-loop-occurrence : goal.invariant-loop-occurrence
invariant-loop-occurrence l = map occurrence_listed l.own.items ≡ map lent_as (take l.occurrence-index l.occurrences)
