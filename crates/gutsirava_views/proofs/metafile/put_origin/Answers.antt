use Rattle.std.proofs.lemmas.Result.{on_ok_weaker}
use Rattle.gutsirava_views.proofs.WritingLemmas.{told_text}
use Rattle.gutsirava_views.proofs.metafile.put_origin.Goals as goal

pub returns-in-External : goal.returns-in-External
returns-in-External c =
    rw c.in-External.is (on_ok_weaker c.put_true.result (λ adds. adds 5 c.requires) c.put_true.ensures)

pub returns-in-Input : goal.returns-in-Input
returns-in-Input c =
    rw (c.in-Input.is, c.if-has_original.true)
    (on_ok_weaker c.put_text.result (λ adds. told_text _ _ _ 5 _ _ c.as_str.ensures.value (adds 5 c.requires)) c.put_text.ensures)
