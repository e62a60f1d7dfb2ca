-- Rows of bits that say which node of a graph of statements reaches which.
use Rattle.std.specs.Prelude.{◌≡◌, ℕ, ◌≤◌, ◌↔◌, List, [], length, nat_eq, slice_index_or, Contains, IsSome}
use Rattle.std.specs.Map.{lookup}
use Rattle.bundle_order_graph.specs.Nodes.{place}
use Rattle.bundle_order_graph.specs.Bits.{HasBit}
use Rattle.bundle_order_graph.specs.Walks.{Path}
use Rattle.bundle_order_graph.specs.Statements.{Statements}

-- the node at place i has an edge to b
abbrev pub Leads : Statements → ℕ → ℕ → Type 0
Leads g i b = IsSome (lookup (nat_eq b) (slice_index_or g.edges i []))

-- an edge leads from the node at place i to the one at place j
abbrev pub LeadsTo : Statements → ℕ → ℕ → Type 0
LeadsTo g i j = (b : ℕ) × Leads g i b × (place g.nodes b ≡ j)

-- each node has its edges, each end of an edge is a node, each node has a row, and position j is in
-- the row of i exactly if a walk of at least one edge leads from the node at i to the one at j
pub record IsExact (g : Statements) (rows : List (List ℕ)) : Type 0 where
  pub len : length g.edges ≡ length g.nodes
  pub closed : (i b : ℕ) → Leads g i b → Contains g.nodes b
  pub enough : length g.nodes ≤ length rows
  pub exact : (i j : ℕ) → HasBit rows i j ↔ Path (LeadsTo g) i j
