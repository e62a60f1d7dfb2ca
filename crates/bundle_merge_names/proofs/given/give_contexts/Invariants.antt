-- The modules that were gone over have their contexts.
use Rattle.std.proofs.Common.{◌≡◌}
use Rattle.bundle_merge_names.specs.Inside.{AreScopesNamed, HoldsNothing}
use Rattle.bundle_merge_names.proofs.given.give_contexts.Given as goal

abbrev pub invariant-loop-module : goal.invariant-loop-module
invariant-loop-module l =
    (HoldsNothing l.bundle l.initial.names → AreScopesNamed l.bundle l.names l.module)
    × (l.names.labels ≡ l.initial.names.labels)
