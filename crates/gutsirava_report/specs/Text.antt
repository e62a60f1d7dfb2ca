-- A text that a sheet gains.
use Rattle.std.specs.Prelude.{◌≡◌, ℕ, true, List, [], ◌∷◌, ◌++◌, chars}
use Rattle.std.specs.List.{list_all}
use Rattle.gutsirava_report.specs.Quiet.{is_quiet_char}
use Rattle.gutsirava_report.specs.Shown.{chars_of}
use Rattle.gutsirava_report.specs.declared.shown.Shown.{Shown}
use Rattle.gutsirava_report.specs.declared.sheet.Sheet.{Sheet}
use Rattle.gutsirava_report.specs.declared.sheet.SheetPiece.TheVariants.{Text}
use Rattle.gutsirava_report.specs.declared.style.Style.{Style}

-- one piece more of this style: the text itself, where it is quiet
pub record AddsText (old new : Sheet) (style : Style) (text : List ℕ) : Type 0 where
  pub shown : Shown
  pub pieces : new.pieces.items ≡ old.pieces.items ++ Text style shown ∷ []
  pub same : list_all is_quiet_char (chars text) ≡ true → chars_of shown ≡ chars text
