-- The places of a text, byte by byte.
use Rattle.std.proofs.Common.{◌≡◌, ℕ, ◌+◌, List, refl, ap, sym, ◌∙◌, add-one, arith}
use Rattle.gutsirava_maps.specs.declared.place.LineColumn.{LineColumn}
use Rattle.gutsirava_maps.specs.Places.{IsMarkOf, place_in, stepped}

-- a text begins at line 0 and column 0
pub begin_is : (text : List ℕ) → IsMarkOf text (record { at = 0; place = record { line = 0; column = 0 } })
unfolding place_in
begin_is text = record { within = omega arith; is = refl }

-- the place behind a byte
pub place_step : (text : List ℕ) (at : ℕ) (place : LineColumn) → place ≡ place_in text at
    → stepped text at place ≡ place_in text (at + 1)
unfolding place_in
place_step text at place is = ap (stepped text at) is ∙ ap (place_in text) (sym (add-one at))
