use Rattle.std.proofs.Common.{ℕ, List, ◌++◌, drop, map}
use Rattle.bundle_order_graph.specs.Blocks.{Members}
use Rattle.bundle_order_graph.specs.Statements.{Statements, IsDependency}
use Rattle.bundle_order_graph.proofs.sort.StmtDepGraph.starts_to.Given as goal

abbrev pub invariant-loop-place : goal.invariant-loop-place
invariant-loop-place l =
    let g : Statements = record { nodes = l.self-inside.nodes.keys; edges = map (λ e. e.entries) l.self-inside.edges.items } in
    (ys : List ℕ) → Members (λ n. IsDependency g n l.end) (drop l.place l.nodes) ys → Members (λ n. IsDependency g n l.end) l.nodes (l.starts.items ++ ys)
