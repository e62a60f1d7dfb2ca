use Rattle.std.proofs.Common.{take, string_bytes}
use Rattle.gutsirava_views.specs.Boxes.{AddsBoxes}
use Rattle.gutsirava_views.proofs.picture.drawing.draw_boxes.Given as goal

abbrev pub invariant-loop-number : goal.invariant-loop-number
invariant-loop-number l =
    AddsBoxes (take l.number l.node-items) (string_bytes l.initial.sheet.text)
    (string_bytes l.sheet.text)
