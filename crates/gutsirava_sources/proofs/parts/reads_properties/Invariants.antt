-- All names before this place are read a property of.
use Rattle.std.proofs.Common.{◌≡◌, ◌-◌, length}
use Rattle.gutsirava_sources.specs.Parts.{reads_from, reads_properties}
use Rattle.gutsirava_sources.proofs.parts.reads_properties.Given as goal

abbrev pub invariant-loop-at : goal.invariant-loop-at
invariant-loop-at l =
    reads_properties l.pieces l.local ≡ reads_from l.pieces l.local (length l.pieces - l.at) l.at
