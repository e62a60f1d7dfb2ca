use Rattle.std.proofs.Common.{◌≡◌, ◌++◌, take, reverse}
use Rattle.bundle_order_sort.proofs.stack.push_needs.Given as goal

abbrev pub invariant-loop-done : goal.invariant-loop-done
invariant-loop-done l = l.stack.items ≡ l.initial.stack.items ++ take l.done (reverse l.needed)
