-- What clauses say of a shown text.
use Rattle.std.specs.Prelude.{ℕ, List, false, chars}
use Rattle.std.specs.String.{string_bytes}
use Rattle.unicode_width.specs.Width.{str_width}
use Rattle.gutsirava_report.specs.declared.shown.Shown.{Shown}

-- its bytes
abbrev pub bytes_of : Shown → List ℕ
bytes_of shown = string_bytes shown.text

-- its characters
abbrev pub chars_of : Shown → List ℕ
chars_of shown = chars (bytes_of shown)

-- how many columns it takes in a terminal
abbrev pub columns_of : Shown → ℕ
columns_of shown = str_width false (chars_of shown)
