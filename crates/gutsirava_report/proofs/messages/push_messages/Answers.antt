-- The messages are told, and then the rest.
use Rattle.gutsirava_report.proofs.ResultLemmas.{OnOk-map}
use Rattle.gutsirava_report.proofs.messages.push_messages.Goals as goal

pub returns : goal.returns
returns c = OnOk-map c.push_rest.result
    (λ longer. (c.push_told.new.sheet, c.in_ok-counts.ensures, longer)) c.push_rest.ensures
