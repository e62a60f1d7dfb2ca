-- How grave a message is.
use Rattle.std.specs.Prelude.{ℕ, List, codes}
use Rattle.gutsirava_report.specs.declared.message.Severity.{Severity}
use Rattle.gutsirava_report.specs.declared.message.Severity.TheVariants.{Error, Warning}
use Rattle.gutsirava_report.specs.declared.style.Style.{Style}
use Rattle.gutsirava_report.specs.declared.style.Style.TheVariants as s

-- its word
abbrev pub word_of : Severity → List ℕ
word_of Error = codes "error"
word_of Warning = codes "warning"

-- the style of its word and of its mark
abbrev pub style_of : Severity → Style
style_of Error = s.Error
style_of Warning = s.Warning
