use Rattle.std.proofs.Common.{◌/◌}
use Rattle.std.proofs.lemmas.Result.{on_ok_weaker}
use Rattle.gutsirava_views.proofs.picture.drawing.DrawingBoard.draw_line.Goals as goal

pub returns : goal.returns
returns c =
    on_ok_weaker c.path.result (λ drawn. record {
      class = c.if-link.class.now;
      begin = c.line_begin-begin.result;
      end = c.line_end-end.result;
      bend = c.saturating_add-bend.result / 2;
      far = c.if-was_crossed.far;
      leaves = c.line_begin-begin.ensures;
      meets = c.line_end-end.ensures;
      whole = drawn;
    }) c.path.ensures
