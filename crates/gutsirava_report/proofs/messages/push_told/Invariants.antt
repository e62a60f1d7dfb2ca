-- The first messages are told, and no more are counted than there are.
use Rattle.std.proofs.Common.{◌≤◌, max, take}
use Rattle.gutsirava_report.specs.Messages.{AddsMessages}
use Rattle.gutsirava_report.proofs.messages.push_told.Given as goal

abbrev pub invariant-loop-message : goal.invariant-loop-message
invariant-loop-message l = record {
  told : AddsMessages l.initial.sheet (take l.message-index l.messages) l.sheet;
  counted : max l.counts.errors l.counts.warnings ≤ l.message-index;
}
