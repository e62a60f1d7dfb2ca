use Rattle.gutsirava_report.proofs.SheetLemmas.{some_pieces}
use Rattle.gutsirava_report.proofs.summary.summary_text.Goals as goal

pub returns-clause-report : goal.returns-clause-report
returns-clause-report c = some_pieces _ _ _ c.text.ensures.whole
