-- A node has fewer pieces inside of it than it has. What was put in, and what is still to be put in, is the whole.
use Rattle.std.proofs.Common.{◌+◌, ◌-◌, ◌*◌, ◌≤◌, length, drop, string_bytes}
use Rattle.bundle_json_form.specs.Plan.{planned}
use Rattle.bundle_json_form.specs.Texts.{from}
use Rattle.bundle_json_form.proofs.Pieces.{AreMembers, ListsLeft}
use Rattle.bundle_json_form.proofs.text.+push.Given as goal

abbrev pub decreases-push_first : goal.decreases-push_first
decreases-push_first l = 5 * (length l.pieces.now - l.at)

abbrev pub decreases-push_object : goal.decreases-push_object
decreases-push_object l = 5 * (length l.pieces.now - l.at) + 4

abbrev pub decreases-push_content : goal.decreases-push_content
decreases-push_content l = 5 * (length l.pieces.now - l.at) + 3

abbrev pub decreases-push_only : goal.decreases-push_only
decreases-push_only l = 5 * (length l.pieces.now - l.at) + 1

abbrev pub decreases-push_list : goal.decreases-push_list
decreases-push_list l = 5 * (length l.pieces.now - l.at) + 1

abbrev pub invariant-push_object-loop-member : goal.invariant-push_object-loop-member
invariant-push_object-loop-member l =
    AreMembers (from l.at l.pieces) (string_bytes l.initial.out) (string_bytes l.out)
    (planned l.member-items) (drop l.member-index (planned l.member-items)) l.is_later

abbrev pub invariant-push_list-children : goal.invariant-push_list-children
invariant-push_list-children l = record {
  lists : ListsLeft l.number (from l.at l.pieces) (string_bytes l.initial.out) (from l.child l.pieces) (string_bytes l.out) l.is_later;
  later : l.at ≤ l.child;
}

abbrev pub decreases-push_list-children : goal.decreases-push_list-children
decreases-push_list-children l = length l.pieces - l.child
