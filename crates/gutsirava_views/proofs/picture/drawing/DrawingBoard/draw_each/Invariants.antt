use Rattle.std.proofs.Common.{take, string_bytes}
use Rattle.gutsirava_views.specs.Lines.{AddsLines}
use Rattle.gutsirava_views.proofs.picture.drawing.DrawingBoard.draw_each.Given as goal

abbrev pub invariant-loop-link : goal.invariant-loop-link
invariant-loop-link l =
    AddsLines l.self.plan.now l.self.columns.now (take l.link-index l.link-items) (string_bytes l.initial.sheet.text)
    (string_bytes l.sheet.text)
