use Rattle.std.proofs.lemmas.Result.{on_ok_weaker}
use Rattle.gutsirava_views.proofs.BoxLemmas.{four_parts}
use Rattle.gutsirava_views.proofs.picture.sheet.SvgSheet.rect.Goals as goal

pub returns : goal.returns
returns c =
    on_ok_weaker c.push-3.result
    (four_parts _ _ _ _ _ _ _ _ _ c.in_ok-push.ensures c.in_ok-push-2.ensures c.in_ok-put.ensures) c.push-3.ensures
