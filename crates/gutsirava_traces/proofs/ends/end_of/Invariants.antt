-- The pieces from here on end where those from the first on do.
use Rattle.std.proofs.Common.{◌≡◌, ◌+◌, ◌≤◌, drop}
use Rattle.gutsirava_traces.specs.Ends.{span}
use Rattle.gutsirava_traces.proofs.ends.end_of.Given as goal

abbrev pub invariant-loop-end : goal.invariant-loop-end
invariant-loop-end l =
    (l.depth ≤ l.end) × (l.end + span l.depth (drop l.end l.pieces) ≡ l.at + span 0 (drop l.at l.pieces))
