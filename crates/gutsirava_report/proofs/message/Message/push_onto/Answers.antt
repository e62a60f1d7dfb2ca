-- The message, and then its notes.
use Rattle.std.proofs.Common.{List, subst}
use Rattle.gutsirava_report.specs.Messages.{AddsNotes}
use Rattle.gutsirava_report.specs.declared.message.Note.{Note}
use Rattle.gutsirava_report.proofs.MessageLemmas.{headed_as}
use Rattle.gutsirava_report.proofs.ResultLemmas.{OnOk-map}
use Rattle.gutsirava_report.proofs.message.Message.push_onto.Goals as goal

pub returns : goal.returns
returns c = OnOk-map c.push_notes.result
    (λ noted. record {
      mid = c.push_headed.new.sheet;
      main = headed_as _ _ _ _ _ _ _ _ _ _ c.style-style.ensures c.word-word.ensures c.as_str.ensures.value c.as_ref.ensures.value c.in_ok-push_headed.ensures;
      notes = subst (λ (notes : List Note). AddsNotes c.push_headed.new.sheet notes c.push_notes.new.sheet) c.as_slice.ensures.value noted;
    })
    c.push_notes.ensures
