-- The places that are left of those that were passed.
use Rattle.std.proofs.Common.{◌≡◌, take}
use Rattle.bundle_order_sort.specs.Places.{left_of}
use Rattle.bundle_order_sort.proofs.plan.left_places.Given as goal

abbrev pub invariant-loop-place : goal.invariant-loop-place
invariant-loop-place l = l.left.items ≡ left_of (take l.place l.owners) l.list
