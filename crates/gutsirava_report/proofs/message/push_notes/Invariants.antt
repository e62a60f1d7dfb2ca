-- Notes are told in their order.
use Rattle.std.proofs.Common.{take}
use Rattle.gutsirava_report.specs.Messages.{AddsNotes}
use Rattle.gutsirava_report.proofs.message.push_notes.Given as goal

abbrev pub invariant-loop-note : goal.invariant-loop-note
invariant-loop-note l = AddsNotes l.initial.sheet (take l.note-index l.notes) l.sheet
