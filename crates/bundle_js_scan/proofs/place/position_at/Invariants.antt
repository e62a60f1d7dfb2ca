-- Each byte adds at most one to the line or the column.
use Rattle.std.proofs.Common.{◌≤◌, ◌+◌}
use Rattle.bundle_js_scan.proofs.place.position_at.Given as goal

abbrev pub invariant-loop-k : goal.invariant-loop-k
invariant-loop-k l = (1 ≤ l.line) × (l.line + l.column ≤ l.k + 1)
