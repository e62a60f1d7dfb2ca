use Rattle.std.proofs.Common.{◌≡◌, ◌++◌, take, flat_map, string_bytes}
use Rattle.gutsirava_views.specs.Boxes.{number_behind}
use Rattle.gutsirava_views.proofs.picture.sheet.SvgSheet.put.Given as goal

abbrev pub invariant-loop-before : goal.invariant-loop-before
invariant-loop-before l =
    string_bytes l.self.text
    ≡ string_bytes l.initial.self.text ++ flat_map number_behind (take l.before-index l.pieces)
