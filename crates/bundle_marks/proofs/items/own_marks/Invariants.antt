-- The marks so far are those passed.
use Rattle.std.proofs.Common.{◌≡◌, map, take}
use Rattle.bundle_tree_places.specs.Marks.{mark_of as lent_mark}
use Rattle.bundle_marks.specs.Owned.{tree_mark_of}
use Rattle.bundle_marks.proofs.items.own_marks.Given as goal

abbrev pub invariant-loop-mark : goal.invariant-loop-mark
invariant-loop-mark l = map tree_mark_of l.own.items ≡ map lent_mark (take l.mark-index l.marks)
