-- What is kept of the list of a module.
use Rattle.std.specs.Prelude.{ℕ, List, get_or}
use Rattle.gutsirava_traces.specs.declared.trace.TheConstants.{NOWHERE}

-- the place of a piece; none behind the list
abbrev pub place_of : List ℕ → ℕ → ℕ
place_of places at = get_or places at NOWHERE
