-- Whether each node of a list of pieces begins and ends once, and nodes lie in each other.
use Rattle.std.specs.Prelude.{◌≡◌, ℕ, zero, suc, List, Option, Some, None}
use Rattle.std.specs.List.{fold}
use Rattle.bundle_syntax.specs.declared.piece.Piece as d
use Rattle.bundle_syntax.specs.declared.piece.Piece.TheVariants as p

-- how many nodes are open after one more piece; none where one ends that is not open
abbrev pub behind : Option ℕ → d.Piece → Option ℕ
behind None piece = None
behind (Some n) (p.Ident field sym ctxt role) = Some n
behind (Some n) (p.Hole field) = Some n
behind (Some n) (p.Open field node) = Some (suc n)
behind (Some zero) p.Close = None
behind (Some (suc n)) p.Close = Some n

-- the pieces leave so many nodes open
abbrev pub Opens : ℕ → List d.Piece → Type 0
Opens n pieces = fold behind (Some 0) pieces ≡ Some n

-- each node of the list begins and ends, and lies in the one around it
abbrev pub IsBracketed : List d.Piece → Type 0
IsBracketed pieces = Opens 0 pieces
