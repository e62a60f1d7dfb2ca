use Rattle.std.proofs.Common.{length}
use Rattle.bundler_entry.specs.Linked.{AreNotes, HasPlaces}
use Rattle.bundler_entry.proofs.linked.notes_of.Given as goal

abbrev pub invariant-loop-place : goal.invariant-loop-place
invariant-loop-place l = HasPlaces l.sources l.reached (length l.reached.places.items) → AreNotes l.sources l.reached l.place-index l.notes.items
