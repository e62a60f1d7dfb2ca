-- What a contract sees of a graph of statements.
use Rattle.std.specs.Prelude.{◌≡◌, ℕ, ◌==◌, ◌&&◌, nat_eq, List, [], Option, Some, None, IsSome, if◌then◌else◌}
use Rattle.std.specs.Map.{lookup}
use Rattle.bundle_order_graph.specs.Nodes.{added, beside}
use Rattle.bundle_order_graph.specs.declared.sort.EdgeDirection.{EdgeDirection}
use Rattle.bundle_order_graph.specs.declared.sort.EdgeDirection.TheVariants.{Outgoing, Incoming}
use Rattle.bundle_order_graph.specs.declared.sort.Required.{Required}
use Rattle.bundle_order_graph.specs.declared.sort.Required.TheVariants.{Always, Maybe}

-- the nodes in the order of adding, and at the same place in the other list the ends of the edges
-- that leave each, with how much each is required
pub record Statements : Type 0 where
  pub nodes : List ℕ
  pub edges : List (List (ℕ × Required))

-- a graph with no node
abbrev pub no_statements : Statements
no_statements = record { nodes = []; edges = [] }

-- how much a requires b, if there is an edge
abbrev pub weight : Statements → ℕ → ℕ → Option Required
weight g a b = lookup (nat_eq b) (beside g.nodes g.edges a)

-- an edge leads from a to b
abbrev pub IsDependency : Statements → ℕ → ℕ → Type 0
IsDependency g a b = IsSome (weight g a b)

-- new is old with the node n
pub record AddsStatement (old new : Statements) (n : ℕ) : Type 0 where
  pub nodes : new.nodes ≡ added old.nodes n
  pub same : (a b : ℕ) → weight new a b ≡ weight old a b

-- what an edge weighs once it is added again: `Always` stays
abbrev pub strongest : Option Required → Required → Required
strongest (Some Always) r = Always
strongest (Some Maybe) r = r
strongest None r = r

-- new is old with both nodes and the edge
pub record AddsDependency (old new : Statements) (a b : ℕ) (r : Required) : Type 0 where
  pub nodes : new.nodes ≡ added (added old.nodes a) b
  pub weights : (x y : ℕ) →
      weight new x y
      ≡ (if x == a && y == b then Some (strongest (weight old a b) r) else weight old x y)

-- n is at the other end of an edge that leaves the node, or comes to it
abbrev pub IsNeighbor : Statements → ℕ → EdgeDirection → ℕ → Type 0
IsNeighbor g node Outgoing n = IsDependency g node n
IsNeighbor g node Incoming n = IsDependency g n node
