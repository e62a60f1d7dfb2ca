use Rattle.std.proofs.Common.{◌≡◌, ◌≤◌, ◌+◌, [], false, nat_eq, map, length, refl, sym, ◌∙◌, arith}
use Rattle.std.specs.List.{list_any}
use Rattle.bundle_order_graph.specs.Statements.{Statements}
use Rattle.bundle_order_graph.proofs.NodeLemmas.{keys_pushed, seen-push}
use Rattle.bundle_order_graph.proofs.StatementLemmas.{IsExact-same, IsExact-node}
use Rattle.bundle_order_graph.proofs.sort.StmtDepGraph.add_node.Goals as goal

pub invariant_of-self-2 : goal.invariant_of-self-2
invariant_of-self-2 c =
    let keys = c.self.inside.nodes.keys in
    let g : Statements = record { nodes = keys; edges = map (λ e. e.entries) c.self.inside.edges.items } in
    let rows = c.extend_to.new.self in
    let e = IsExact-same g c.self.inside.rows rows c.self.invariant c.extend_to.ensures.same c.extend_to.ensures.longer in
    let absent : list_any (nat_eq c.args.node) keys ≡ false = sym c.contains.ensures ∙ c.if-contains.false in
    let enough : length keys + 1 ≤ length rows = omega (arith, c.in_ok-extend_to.ensures.ok, c.len-count.ensures.len) in
    let nodes = keys_pushed c.insert.result c.unwrap.result keys c.reserve.new.self.keys c.insert.new.self.keys c.args.node c.unwrap.ensures c.insert.ensures.keys c.in_ok-reserve.ensures.keys absent in
    let edges = seen-push (λ e. e.entries) c.self.inside.edges.items c.self.inside.edges.items c.push.new.self.items c.new.result [] c.in_ok-push.ensures.items refl c.new.ensures.empty in
    IsExact-node g c.args.node rows e absent enough (record { nodes = c.insert.new.self.keys; edges = map (λ e. e.entries) c.push.new.self.items }) nodes edges
