-- Lists that are whole nodes, names and holes, one after another, whatever stands in the nodes
-- (bundle_link's `AreNodesInTurn` says of that too).
use Rattle.std.specs.Prelude.{ℕ, List, [], ◌∷◌, ◌++◌}
use Rattle.bundle_syntax.specs.declared.piece.Role.{Role}
use Rattle.bundle_syntax.specs.Item as h
use Rattle.bundle_syntax.specs.Item.{Item, Head}

pub data AreNodesInTurn : List Item → Type 0 where
  nothing : AreNodesInTurn []
  name : {field ctxt : ℕ} {sym : List ℕ} {role : Role} {rest : List Item} → AreNodesInTurn rest →
      AreNodesInTurn (h.Ident field sym ctxt role ∷ rest)
  hole : {field : ℕ} {rest : List Item} → AreNodesInTurn rest → AreNodesInTurn (h.Hole field ∷ rest)
  node : {field : ℕ} {head : Head} {inside rest : List Item} → AreNodesInTurn inside →
      AreNodesInTurn rest →
      AreNodesInTurn (h.Open field head ∷ (inside ++ h.Close ∷ rest))
