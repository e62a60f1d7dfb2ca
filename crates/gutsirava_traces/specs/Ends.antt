-- Where the nodes of a list end.
use Rattle.std.specs.Prelude.{◌+◌, ◌-◌, ◌==◌, ℕ, suc, List, [], ◌∷◌, if◌then◌else◌, drop}
use Rattle.bundle_syntax.specs.declared.piece.Piece as d
use Rattle.bundle_syntax.specs.declared.piece.Piece.TheVariants as p

-- how many nodes are open behind a piece, where so many are before it; an end in front of all
-- begins ends none
unfoldable pub depth_behind : ℕ → d.Piece → ℕ
depth_behind depth (p.Open field node) = suc depth
depth_behind depth p.Close = depth - 1
depth_behind depth (p.Ident field sym ctxt role) = depth
depth_behind depth (p.Hole field) = depth

-- how many pieces it takes until all nodes are ended, where so many are open; all, where some never
-- end
abbrev pub span : ℕ → List d.Piece → ℕ
span depth [] = 0
span depth (piece ∷ pieces) =
    if depth_behind depth piece == 0 then 1 else suc (span (depth_behind depth piece) pieces)

-- the place behind the node that begins at a place, or behind the leaf there
abbrev pub end_of : List d.Piece → ℕ → ℕ
end_of pieces at = at + span 0 (drop at pieces)
