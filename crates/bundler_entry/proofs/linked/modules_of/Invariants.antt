use Rattle.std.proofs.Common.{length}
use Rattle.bundler_entry.specs.Linked.{AreLinkModules, HasPlaces}
use Rattle.bundler_entry.proofs.linked.modules_of.Given as goal

abbrev pub invariant-loop-which : goal.invariant-loop-which
invariant-loop-which l = HasPlaces l.sources l.reached (length l.reached.places.items) → AreLinkModules l.sources l.reached l.which l.modules.items
