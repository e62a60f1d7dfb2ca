-- Each note is told behind those before it.
use Rattle.std.proofs.Common.{List, subst, take}
use Rattle.std.proofs.lemmas.List.{take_all}
use Rattle.gutsirava_report.specs.Messages.{AddsNotes}
use Rattle.gutsirava_report.specs.Messages.AddsNotes.{NoNote}
use Rattle.gutsirava_report.specs.declared.message.Note.{Note}
use Rattle.gutsirava_report.proofs.MessageLemmas.{notes_more}
use Rattle.gutsirava_report.proofs.message.push_notes.Goals as goal

pub loop-note-init : goal.loop-note-init
loop-note-init c = NoNote

pub loop-note-preserved : goal.loop-note-preserved
loop-note-preserved c =
    notes_more c.args.sheet.now c.loop-note.sheet c.push_headed.new.sheet c.args.notes.now c.loop-note.note-index
    c.note-item.result _ _ c.loop-note-test.true c.note-item.is c.as_str.ensures.value c.as_ref.ensures.value
    c.loop-note.invariant c.in_ok-push_headed.ensures

pub returns : goal.returns
returns c =
    subst (λ (some : List Note). AddsNotes c.args.sheet.now some c.loop-note.sheet)
    (take_all c.loop-note.note-index c.args.notes.now c.loop-note-test.false) c.loop-note.invariant
