-- A line with a mark under it.
use Rattle.std.specs.Prelude.{◌≡◌, ℕ, ◌-◌, Bool, true, List, String, [], ◌∷◌, ◌++◌, MatchOption, chars, codes, max, replicate, string_bytes, if◌then◌else◌}
use Rattle.std.specs.Fmt.{decimal}
use Rattle.std.specs.List.{list_all}
use Rattle.std.specs.declared.alloc.Global.{Global}
use Rattle.gutsirava_report.specs.Gains.{Gains, Shows}
use Rattle.gutsirava_report.specs.Gains.Gain.{Words, Ended}
use Rattle.gutsirava_report.specs.Quiet.{is_quiet_char}
use Rattle.gutsirava_report.specs.declared.place.FilePlace.{FilePlace}
use Rattle.gutsirava_report.specs.declared.place.Stretch.{Stretch}
use Rattle.gutsirava_report.specs.Shown.{chars_of, columns_of}
use Rattle.gutsirava_report.specs.declared.shown.Shown.{Shown}
use Rattle.gutsirava_report.specs.declared.sheet.Sheet.{Sheet}
use Rattle.gutsirava_report.specs.declared.sheet.SheetPiece.TheVariants.{Text, LineEnd}
use Rattle.gutsirava_report.specs.declared.style.Style.{Style}
use Rattle.gutsirava_report.specs.declared.style.Style.TheVariants.{Plain, Margin}

-- whether a text is quiet
abbrev pub is_quiet : String Global → Bool
is_quiet text = list_all is_quiet_char (chars (string_bytes text))

-- a bar in the column of the margin's, with blanks before it
abbrev pub margin_under : Shown → List ℕ
margin_under margin = replicate (columns_of margin - 2) 32 ++ (124 ∷ 32 ∷ [])

-- three dots, where more of a line is not shown
abbrev pub dots : Bool → List ℕ
dots has_more = if has_more then replicate 3 46 else []

-- what the sheet gains is the line of a stretch, in three parts behind its number: what is before
-- the stretch, the stretch and what is behind it, each as it is where it is quiet; and under it a
-- line whose marks begin in the column in which the stretch begins, and are as many as it has
-- columns, one at least
pub record AddsExcerpt (old new : Sheet) (style : Style) (stretch : Stretch) : Type 0 where
  pub margin : Shown
  pub before : Shown
  pub marked : Shown
  pub after : Shown
  pub bar : Shown
  pub marks : Shown
  pub pieces : new.pieces.items ≡ old.pieces.items
      ++ (Text Margin margin ∷ Text Plain before ∷ Text Plain marked
      ∷ Text Plain after ∷ LineEnd ∷ Text Margin bar ∷ Text style marks ∷ LineEnd ∷ [])
  pub numbered : Shows (decimal stretch.line ++ codes " | ") margin
  pub behind : is_quiet stretch.before ≡ true
      → chars_of before ≡ dots stretch.has_more_before ++ chars (string_bytes stretch.before)
  pub there : Shows (string_bytes stretch.marked) marked
  pub ahead : is_quiet stretch.after ≡ true
      → chars_of after ≡ chars (string_bytes stretch.after) ++ dots stretch.has_more_after
  pub aligned : chars_of bar ≡ margin_under margin
  pub under : chars_of marks ≡ replicate (columns_of before) 32
      ++ replicate (max 1 (columns_of marked)) 94

-- a line and a column
abbrev pub at_text : Stretch → List ℕ
at_text stretch = codes ":" ++ (decimal stretch.line ++ (codes ":" ++ decimal stretch.column))

-- what the sheet gains is the line of a file with line and column, one of a bar alone, and the
-- excerpt
pub record AddsStretch (path : List ℕ) (stretch : Stretch) (style : Style) (old new : Sheet)
    : Type 0 where
  pub arrow : List ℕ
  pub bar : List ℕ
  pub above : Sheet
  pub head : Gains old above (Words Margin arrow ∷ Words Plain path ∷ Words Plain (at_text stretch)
      ∷ Ended ∷ Words Margin bar ∷ Ended ∷ [])
  pub excerpt : AddsExcerpt above new style stretch

-- the same of a place, and of a file alone its line
abbrev pub AddsPlace : FilePlace → Style → Sheet → Sheet → Type 0
AddsPlace place style old new = MatchOption place.stretch
    (Gains old new (Words Margin (codes " --> ") ∷ Words Plain (string_bytes place.path) ∷ Ended
    ∷ []))
    (λ stretch. AddsStretch (string_bytes place.path) stretch style old new)
