use Rattle.gutsirava_report.proofs.MessageLemmas.{tells_text}
use Rattle.gutsirava_report.proofs.SheetLemmas.{some_pieces}
use Rattle.gutsirava_report.proofs.messages.messages_text.Goals as goal

pub returns-clause-report : goal.returns-clause-report
returns-clause-report c = some_pieces _ _ _ c.text.ensures.whole

pub returns-clause-told : goal.returns-clause-told
returns-clause-told c =
    let told = c.in_ok-push_messages.ensures in
    tells_text c.args.messages.now c.args.colors c.new-sheet.result told.0 c.push_messages.new.sheet c.text.result
    c.new-sheet.ensures told.1 told.2 c.text.ensures.whole
