-- What a sheet gains.
use Rattle.std.specs.Prelude.{◌≡◌, ℕ, true, List, [], ◌∷◌, ◌++◌, chars, codes}
use Rattle.std.specs.List.{list_all}
use Rattle.gutsirava_report.specs.Quiet.{is_quiet_char}
use Rattle.gutsirava_report.specs.Shown.{chars_of}
use Rattle.gutsirava_report.specs.declared.shown.Shown.{Shown}
use Rattle.gutsirava_report.specs.declared.sheet.Sheet.{Sheet}
use Rattle.gutsirava_report.specs.declared.sheet.SheetPiece.{SheetPiece}
use Rattle.gutsirava_report.specs.declared.sheet.SheetPiece.TheVariants.{Text, LineEnd}
use Rattle.gutsirava_report.specs.declared.style.Style.{Style}
use Rattle.gutsirava_report.specs.declared.style.Style.TheVariants.{Strong}

-- a text of a style, as it may be shown, or the end of a line
pub data Gain : Type 0 where
  Words : Style → List ℕ → Gain
  Ended : Gain

-- a text is shown: as it is, where it is quiet
abbrev pub Shows : List ℕ → Shown → Type 0
Shows text shown = list_all is_quiet_char (chars text) ≡ true → chars_of shown ≡ chars text

-- a piece is what is gained
abbrev pub IsGain : Gain → SheetPiece → Type 0
IsGain (Words style text) (Text painted shown) = (painted ≡ style) × Shows text shown
IsGain (Words style text) LineEnd = ⊥
IsGain Ended (Text painted shown) = ⊥
IsGain Ended LineEnd = Unit {0}

-- so each of these, in their order
abbrev pub AreGains : List Gain → List SheetPiece → Type 0
AreGains [] [] = Unit {0}
AreGains [] (piece ∷ pieces) = ⊥
AreGains (gain ∷ gains) [] = ⊥
AreGains (gain ∷ gains) (piece ∷ pieces) = IsGain gain piece × AreGains gains pieces

-- a sheet gains these
pub record Gains (old new : Sheet) (gains : List Gain) : Type 0 where
  pub more : List SheetPiece
  pub pieces : new.pieces.items ≡ old.pieces.items ++ more
  pub are : AreGains gains more

-- the line that begins a message: its word and what is wrong
abbrev pub head_of : Style → List ℕ → List ℕ → List Gain
head_of style word text =
    Words style word ∷ Words Strong (codes ": ") ∷ Words Strong text ∷ Ended ∷ []
