use Rattle.std.proofs.Common.{string_bytes}
use Rattle.gutsirava_views.proofs.BoxLemmas.{grows_again, grows_by}
use Rattle.gutsirava_views.proofs.picture.drawing.draw_all.Goals as goal

pub returns : goal.returns
returns c = record {
  columns = c.args.board.columns.now;
  ground = string_bytes c.draw_ground.new.sheet.text;
  lined = string_bytes c.draw_lines.new.sheet.text;
  boxed = string_bytes c.draw_boxes.new.sheet.text;
  lines = c.in_ok-draw_lines.ensures;
  boxes = c.in_ok-draw_boxes.ensures;
  rest = grows_again _ _ _ (grows_by _ _ _ c.in_ok-push.ensures) (grows_by _ _ _ c.in_ok-push-2.ensures);
}
