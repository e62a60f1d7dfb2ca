use Rattle.std.proofs.Common.{ap, sym, ◌∙◌}
use Rattle.bundle_order_graph.specs.Nodes.{added}
use Rattle.bundle_link.proofs.NumbersLemmas.{once-next}
use Rattle.bundle_link.proofs.reached.ids_in.Goals as goal

pub loop-id-preserved : goal.loop-id-preserved
loop-id-preserved c =
    let id = c.id-item.result in
    c.in_ok-insert.ensures.keys
    ∙ ap (λ ids. added ids id) c.loop-id.invariant
    ∙ sym (once-next c.args.list.now c.loop-id.id-index id c.loop-id-test.true c.id-item.is)
