-- The message is told, and an empty line.
use Rattle.std.proofs.Common.{inl}
use Rattle.gutsirava_report.proofs.GainLemmas.{gains_end}
use Rattle.gutsirava_report.proofs.ResultLemmas.{OnOk-map}
use Rattle.gutsirava_report.proofs.messages.push_message.Goals as goal

pub returns : goal.returns
returns c = OnOk-map c.end_line.result
    (λ ended. inl (c.push_onto.new.sheet, c.in_ok-push_onto.ensures, gains_end _ _ ended)) c.end_line.ensures
