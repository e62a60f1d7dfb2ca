-- What was taken, and what is still to be taken, is what was there.
use Rattle.std.proofs.Common.{◌≡◌, ◌++◌, map, length}
use Rattle.serde_json.specs.View.{view}
use Rattle.bundle_json_form.specs.Writing.{child_of, all_in, after_all_in}
use Rattle.bundle_json_form.proofs.write.take_all.Given as goal

abbrev pub invariant-loop-value : goal.invariant-loop-value
invariant-loop-value l =
    (map view l.list.items ++ all_in l.field (map child_of l.children.items) ≡ all_in l.field (map child_of l.initial.children.items))
    × (after_all_in l.field (map child_of l.children.items) ≡ after_all_in l.field (map child_of l.initial.children.items))

abbrev pub decreases-loop-value : goal.decreases-loop-value
decreases-loop-value l = length l.children.items
