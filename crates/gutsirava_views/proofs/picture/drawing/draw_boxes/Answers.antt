use Rattle.std.proofs.Common.{string_bytes}
use Rattle.gutsirava_views.specs.Boxes.{nothing}
use Rattle.gutsirava_views.proofs.picture.drawing.draw_boxes.Goals as goal

pub loop-number-init : goal.loop-number-init
loop-number-init c = nothing (string_bytes c.args.sheet.now.text)
