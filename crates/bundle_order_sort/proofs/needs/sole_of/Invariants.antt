use Rattle.std.proofs.Common.{ℕ, Contains, take}
use Rattle.bundle_order_sort.specs.Items.{IsItemOf}
use Rattle.bundle_order_sort.proofs.needs.sole_of.Given as goal

abbrev pub invariant-loop-item : goal.invariant-loop-item
invariant-loop-item l = (t : ℕ) → Contains (take l.item-index l.list) t → IsItemOf l.items t l.module
