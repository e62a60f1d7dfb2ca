-- The sequences that colour a terminal.
use Rattle.std.specs.Prelude.{ℕ, List, [], ◌∷◌, codes}
use Rattle.gutsirava_report.specs.declared.style.Style.{Style}
use Rattle.gutsirava_report.specs.declared.style.Style.TheVariants.{Plain, Strong, Error, Warning, Note, Margin}

-- the one that begins a style: the character of escape, then its parameters
abbrev pub opening_of : Style → List ℕ
opening_of Plain = []
opening_of Strong = 27 ∷ codes "[1m"
opening_of Error = 27 ∷ codes "[1;31m"
opening_of Warning = 27 ∷ codes "[1;33m"
opening_of Note = 27 ∷ codes "[1;36m"
opening_of Margin = 27 ∷ codes "[1;34m"

-- the one that ends a style
abbrev pub closing_of : Style → List ℕ
closing_of Plain = []
closing_of Strong = 27 ∷ codes "[0m"
closing_of Error = 27 ∷ codes "[0m"
closing_of Warning = 27 ∷ codes "[0m"
closing_of Note = 27 ∷ codes "[0m"
closing_of Margin = 27 ∷ codes "[0m"
