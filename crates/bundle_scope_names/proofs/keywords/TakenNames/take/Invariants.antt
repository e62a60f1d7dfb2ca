-- Nothing was taken so far.
use Rattle.std.proofs.Common.{◌≡◌, ◌≤◌}
use Rattle.bundle_scope_names.proofs.keywords.TakenNames.take.Given as goal

abbrev pub invariant-loop-ctxt : goal.invariant-loop-ctxt
invariant-loop-ctxt l = (l.self ≡ l.fn.self) × (l.fn.self.next ≤ l.ctxt-counter)
