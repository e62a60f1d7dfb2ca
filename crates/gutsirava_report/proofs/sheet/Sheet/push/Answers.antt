-- The text is the one that was shown.
use Rattle.std.proofs.Common.{◌++◌, chars, ap, ◌∙◌}
use Rattle.gutsirava_report.proofs.ResultLemmas.{OnOk-map}
use Rattle.gutsirava_report.proofs.sheet.Sheet.push.Goals as goal

pub returns : goal.returns
returns c = OnOk-map c.push_shown.result (λ added. record {
  shown = c.push_str.new.self;
  pieces = added;
  same = λ quiet. c.in_ok-push_str.ensures quiet ∙ ap (λ front. front ++ chars c.args.text.now) c.new-shown.ensures;
}) c.push_shown.ensures
