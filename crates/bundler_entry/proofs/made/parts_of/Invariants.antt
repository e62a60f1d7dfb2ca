-- The modules that were gone over are parts.
use Rattle.std.proofs.Common.{length}
use Rattle.bundler_entry.specs.Linked.{HasFiles, HasPlaces}
use Rattle.bundler_entry.specs.Parts.{AreEntryParts}
use Rattle.bundler_entry.proofs.made.parts_of.Given as goal

abbrev pub invariant-loop-module : goal.invariant-loop-module
invariant-loop-module l =
    HasPlaces l.call.program.now.sources.items l.reached (length l.reached.leads.items) →
    HasFiles l.call l.reached (length l.reached.leads.items) →
    AreEntryParts l.call l.reached l.bodies l.module l.parts.items
