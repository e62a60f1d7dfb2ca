-- What is written of a report.
use Rattle.std.specs.Prelude.{◌≡◌, ℕ, Bool, true, false, List, [], ◌∷◌, ◌++◌}
use Rattle.std.specs.List.{flat_map}
use Rattle.gutsirava_report.specs.Shown.{bytes_of}
use Rattle.gutsirava_report.specs.Style.{opening_of, closing_of}
use Rattle.gutsirava_report.specs.declared.sheet.SheetPiece.{SheetPiece}
use Rattle.gutsirava_report.specs.declared.sheet.SheetPiece.TheVariants.{Text, LineEnd}

-- what is written of a piece, with colours or without: of a text, itself, with the sequences of its
-- style around it
abbrev pub painted : Bool → SheetPiece → List ℕ
painted true (Text style shown) = opening_of style ++ bytes_of shown ++ closing_of style
painted false (Text style shown) = bytes_of shown
painted true LineEnd = 10 ∷ []
painted false LineEnd = 10 ∷ []

-- the text is what is written of some report, whose texts are quiet by their type
abbrev pub IsReport : Bool → List ℕ → Type 0
IsReport colors bytes = (pieces : List SheetPiece) × (bytes ≡ flat_map (painted colors) pieces)
