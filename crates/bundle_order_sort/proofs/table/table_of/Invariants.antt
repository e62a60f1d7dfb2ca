-- The table has the items that were passed.
use Rattle.std.proofs.Common.{take}
use Rattle.bundle_order_sort.specs.Rows.{AreRows}
use Rattle.bundle_order_sort.proofs.table.table_of.Given as goal

abbrev pub invariant-loop-place : goal.invariant-loop-place
invariant-loop-place l = AreRows l.table (take l.place l.owners)
