use Rattle.bundle_link_targets.specs.Linked.{IsLinkingOf}
use Rattle.bundle_rules.specs.Program.{Program}
use Rattle.bundle_link.specs.Judged.{AreNotesOf, HasNoDoubled}
use Rattle.bundle_link.proofs.judging.doubled_in.Given as goal

abbrev pub invariant-loop-module : goal.invariant-loop-module
invariant-loop-module l = (q : Program) → AreNotesOf q l.notes → IsLinkingOf q l.linking → HasNoDoubled q l.module
