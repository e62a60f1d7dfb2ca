use Rattle.std.proofs.Common.{ap, map}
use Rattle.bundle_order_graph.specs.Statements.{Statements}
use Rattle.bundle_order_graph.proofs.StatementLemmas.{IsExact-empty}
use Rattle.bundle_order_graph.proofs.sort.StmtDepGraph.new.Goals as goal

pub invariant_of-result : goal.invariant_of-result
invariant_of-result c =
    let g : Statements = record { nodes = c.new.result.keys; edges = map (λ e. e.entries) c.new-2.result.items } in
    IsExact-empty g c.new-3.result c.new.ensures.empty (ap (map (λ e. e.entries)) c.new-2.ensures.items) c.new-3.ensures
