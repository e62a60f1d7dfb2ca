use Rattle.std.proofs.Common.{◌≡◌, take, flat_map, string_bytes}
use Rattle.gutsirava_report.specs.Sheet.{painted}
use Rattle.gutsirava_report.proofs.sheet.Sheet.text.Given as goal

abbrev pub invariant-loop-piece : goal.invariant-loop-piece
invariant-loop-piece l =
    string_bytes l.text ≡ flat_map (painted l.colors) (take l.piece-index l.self.pieces.items)
