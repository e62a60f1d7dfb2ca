-- One more piece gives the statement that it begins.
use Rattle.std.proofs.Common.{◌≡◌, ◌+◌, ◌<◌, ◌++◌, ℕ, List, ◌∷◌, length, get_or, drop, ap, sym, ◌∙◌}
use Rattle.std.proofs.lemmas.List.{at_drop_more}
use Rattle.bundle_syntax.specs.declared.piece.Piece as d
use Rattle.gutsirava_traces.specs.Ends.{depth_behind}
use Rattle.gutsirava_traces.specs.Statements.{stated, statements_on}

pub statements_step : (places : List ℕ) (pieces : List d.Piece) (at depth : ℕ) (piece : d.Piece) → at < length pieces
    → piece ≡ get_or pieces at piece
    → statements_on places pieces at depth (drop at pieces)
    ≡ stated places pieces at depth piece ++ statements_on places pieces (at + 1) (depth_behind depth piece) (drop (at + 1) pieces)
statements_step places pieces at depth piece lt e =
    at_drop_more (statements_on places pieces at depth) pieces at piece lt
    ∙ ap (λ it. statements_on places pieces at depth (it ∷ drop (at + 1) pieces)) (sym e)
