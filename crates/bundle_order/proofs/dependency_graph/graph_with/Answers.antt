-- One more node.
use Rattle.std.proofs.Common.{◌≡◌, sym, subst, arith}
use Rattle.bundle_order.specs.Items.{AreIndependent}
use Rattle.bundle_order.proofs.NumberingLemmas.{no_nodes, one_apart}
use Rattle.bundle_order.proofs.dependency_graph.graph_with.Goals as goal

pub loop-number-init : goal.loop-number-init
loop-number-init c = subst (λ graph. AreIndependent graph 0) (sym c.new-graph.ensures) no_nodes

pub loop-number-preserved : goal.loop-number-preserved
loop-number-preserved c = one_apart _ _ _ c.in_ok-add_node.ensures.ok c.loop-number.invariant

pub returns : goal.returns
returns c =
    let all : c.loop-number.number ≡ c.args.count = omega (arith, c.loop-number-test.false, c.loop-number.auto.number-end) in
    subst (λ count. AreIndependent c.loop-number.graph count) all c.loop-number.invariant
