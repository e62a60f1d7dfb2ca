-- The owner was added for each number that was passed.
use Rattle.std.proofs.Common.{◌≡◌, ◌≤◌, ◌++◌, ◌-◌, length}
use Rattle.std.proofs.Math.ListN.{replicate}
use Rattle.bundle_merge_items.proofs.merge.note_owner.Given as goal

abbrev pub invariant-loop : goal.invariant-loop
invariant-loop l =
    (l.owners.items ≡ l.initial.owners.items
    ++ replicate (l.counter - length l.initial.owners.items) l.owner)
    × (length l.initial.owners.items ≤ l.counter)
    × (l.counter - length l.initial.owners.items ≤ l.count - length l.initial.owners.items)
