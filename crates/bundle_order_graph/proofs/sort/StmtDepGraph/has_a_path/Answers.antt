use Rattle.std.proofs.Common.{◌↔◌, IsTrue, false, sym, ◌∙◌, subst, map}
use Rattle.std.proofs.lemmas.Bool.{false≢true}
use Rattle.bundle_order_graph.specs.Walks.{Path}
use Rattle.bundle_order_graph.specs.Statements.{Statements, IsDependency}
use Rattle.bundle_order_graph.proofs.StatementLemmas.{walk_read, no_walk_to}
use Rattle.bundle_order_graph.proofs.sort.StmtDepGraph.has_a_path.Goals as goal

pub returns-in-Some-Some : goal.returns-in-Some-Some
returns-in-Some-Some c =
    let g : Statements = record { nodes = c.self.inside.nodes.keys; edges = map (λ e. e.entries) c.self.inside.edges.items } in
    let bits = walk_read g c.self.inside.rows c.self.invariant c.args.from c.args.to c.in-Some-Some.from c.in-Some-Some.to (sym c.get_index_of.ensures.index ∙ c.in-Some-Some.is-0) (sym c.get_index_of-2.ensures.index ∙ c.in-Some-Some.is-1) in
    let h = c.has.ensures in
    subst (λ x. IsTrue c.has.result ↔ Path (IsDependency x) c.args.from c.args.to) c.self.view_is (λ t. bits.0 (h.0 t), λ w. h.1 (bits.1 w))

pub returns-in_default : goal.returns-in_default
returns-in_default c =
    let g : Statements = record { nodes = c.self.inside.nodes.keys; edges = map (λ e. e.entries) c.self.inside.edges.items } in
    subst (λ x. IsTrue false ↔ Path (IsDependency x) c.args.from c.args.to) c.self.view_is
    (λ t. absurd (false≢true t), λ w. absurd (no_walk_to g c.self.inside.rows c.self.invariant c.args.from c.args.to (sym c.get_index_of-2.ensures.index ∙ c.in_default.is-1) w))
