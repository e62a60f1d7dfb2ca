-- The pieces so far are taken in, and those from here on give the statements that are left.
use Rattle.std.proofs.Common.{◌≡◌, ◌≤◌, ◌++◌, drop, vec_len}
use Rattle.gutsirava_traces.specs.Statements.{statements_on}
use Rattle.gutsirava_traces.proofs.trace.SourceTrace.of.Given as goal

abbrev pub invariant-loop-at : goal.invariant-loop-at
invariant-loop-at l = record {
  depth : l.depth ≤ l.at;
  shapes : vec_len l.trace.shapes ≡ l.at;
  places : l.trace.places ≡ l.initial.trace.places;
  statements : l.trace.statements.items ++ statements_on l.initial.trace.places.items l.pieces l.at l.depth (drop l.at l.pieces)
      ≡ statements_on l.initial.trace.places.items l.pieces 0 0 l.pieces;
}
