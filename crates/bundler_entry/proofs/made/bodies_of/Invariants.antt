-- The modules that were gone over have what their names denote as bodies.
use Rattle.bundle_rules.specs.Program.{Program}
use Rattle.bundle_link_targets.specs.Linked.{IsLinkingOf}
use Rattle.bundler_entry.specs.Parts.{AreBodies}
use Rattle.bundler_entry.proofs.made.bodies_of.Given as goal

abbrev pub invariant-loop-which : goal.invariant-loop-which
invariant-loop-which l =
    (q : Program) → IsLinkingOf q l.linking →
    AreBodies q l.call l.reached l.which l.bodies.items
