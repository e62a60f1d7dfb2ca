use Rattle.std.proofs.Common.{◌≡◌, ◌≤◌, ◌+◌, false, drop}
use Rattle.gutsirava_report.specs.Lines.{line_ends}
use Rattle.gutsirava_report.proofs.place.line_after.Given as goal

abbrev pub invariant-loop-byte : goal.invariant-loop-byte
invariant-loop-byte l = record {
  counted : l.line + line_ends l.follows_return (drop l.byte-index l.byte-items) ≡ 1 + line_ends false l.byte-items;
  bounded : l.line ≤ l.byte-index + 1;
}
