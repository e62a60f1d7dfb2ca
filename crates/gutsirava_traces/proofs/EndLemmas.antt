-- Pieces are gone over until all nodes are ended.
use Rattle.std.proofs.Common.{◌≡◌, ◌≢◌, ◌+◌, ◌<◌, ◌≤◌, ℕ, suc, cond, List, ◌∷◌, length, get_or, drop, ap, sym, ◌∙◌, ne_eqb, arith}
use Rattle.std.proofs.lemmas.List.{at_drop_more}
use Rattle.bundle_syntax.specs.declared.piece.Piece as d
use Rattle.bundle_syntax.specs.declared.piece.Piece.TheVariants as p
use Rattle.gutsirava_traces.specs.Ends.{depth_behind, span}

-- one more node at most is open behind a piece
pub depth_behind_le : (depth : ℕ) (piece : d.Piece) → depth_behind depth piece ≤ depth + 1
unfolding depth_behind
depth_behind_le depth (p.Open field node) = omega arith
depth_behind_le depth p.Close = omega arith
depth_behind_le depth (p.Ident field sym ctxt role) = omega arith
depth_behind_le depth (p.Hole field) = omega arith

-- where nodes are open behind a piece, one more is gone over
pub span_step : (pieces : List d.Piece) (at depth : ℕ) (piece : d.Piece) → at < length pieces → piece ≡ get_or pieces at piece
    → depth_behind depth piece ≢ 0 → span depth (drop at pieces) ≡ suc (span (depth_behind depth piece) (drop (at + 1) pieces))
span_step pieces at depth piece lt e deep =
    at_drop_more (span depth) pieces at piece lt
    ∙ ap (λ it. span depth (it ∷ drop (at + 1) pieces)) (sym e)
    ∙ ap (λ b. cond b 1 (suc (span (depth_behind depth piece) (drop (at + 1) pieces)))) (ne_eqb (depth_behind depth piece) 0 deep)
