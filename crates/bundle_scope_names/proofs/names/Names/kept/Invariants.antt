-- Nothing is new so far.
use Rattle.std.proofs.Common.{◌≡◌, None, replicate}
use Rattle.bundle_scope_names.proofs.names.Names.kept.Given as goal

abbrev pub invariant-loop : goal.invariant-loop
invariant-loop l = (l.texts.items ≡ replicate l.counter None) × (l.contexts.items ≡ replicate l.counter None)
