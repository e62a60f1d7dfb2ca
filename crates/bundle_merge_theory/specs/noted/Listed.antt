-- Lists that are whole nodes, as trees list them, with what `IsListing` needs of what stands right
-- in a node.
use Rattle.std.specs.Prelude.{◌≡◌, ℕ, Bool, true, false, List, [], ◌∷◌, ◌++◌}
use Rattle.bundle_syntax.specs.declared.piece.Role.{Role}
use Rattle.bundle_syntax.specs.declared.piece.Role.TheVariants.{Reference}
use Rattle.bundle_syntax.specs.Item as h
use Rattle.bundle_syntax.specs.Item.{Item, Head}

-- where an element stands in the node around it: in a member expression or a call; first in an
-- assignment; anywhere else
pub data Stand : Type 0 where
  Other : Stand
  InReadOrCall : Stand
  AtTarget : Stand

-- where the first element in such a node stands
abbrev pub first_stand : Head → Stand
first_stand h.MemberExpr = InReadOrCall
first_stand h.CallExpr = InReadOrCall
first_stand (h.AssignExpr op) = AtTarget
first_stand head = Other

-- where the next element stands
abbrev pub next_to : Stand → Stand
next_to AtTarget = Other
next_to stand = stand

-- whether an identifier of this role refers
abbrev pub is_reference_role : Role → Bool
is_reference_role Reference = true
is_reference_role role = false

-- a name of this role may stand there: in a member expression or a call one that refers
abbrev pub NameFits : Stand → Role → Type 0
NameFits InReadOrCall role = is_reference_role role ≡ true
NameFits stand role = Unit {0}

-- a node in this field may stand there: what is assigned to in the second
abbrev pub NodeFits : Stand → ℕ → Type 0
NodeFits AtTarget field = field ≡ 1
NodeFits stand field = Unit {0}

-- whole nodes, names and holes, one after another, of which the first stands there
pub data AreListed : Stand → List Item → Type 0 where
  nothing : {stand : Stand} → AreListed stand []
  name : {stand : Stand} {field ctxt : ℕ} {sym : List ℕ} {role : Role} {rest : List Item} →
      NameFits stand role → AreListed (next_to stand) rest →
      AreListed stand (h.Ident field sym ctxt role ∷ rest)
  hole : {stand : Stand} {field : ℕ} {rest : List Item} → AreListed (next_to stand) rest →
      AreListed stand (h.Hole field ∷ rest)
  node : {stand : Stand} {field : ℕ} {head : Head} {inside rest : List Item} →
      NodeFits stand field → AreListed (first_stand head) inside → AreListed (next_to stand) rest →
      AreListed stand (h.Open field head ∷ (inside ++ h.Close ∷ rest))
