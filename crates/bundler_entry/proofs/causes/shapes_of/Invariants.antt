-- The shapes of the modules that were gone over.
use Rattle.std.proofs.Common.{length}
use Rattle.bundler_entry.specs.Caused.{AreShapesOfAll}
use Rattle.bundler_entry.specs.Linked.{HasPlaces}
use Rattle.bundler_entry.proofs.causes.shapes_of.Given as goal

abbrev pub invariant-loop-which : goal.invariant-loop-which
invariant-loop-which l =
    HasPlaces l.call.program.now.sources.items l.reached (length l.reached.places.items) →
    AreShapesOfAll l.call l.reached l.which l.shapes.items
