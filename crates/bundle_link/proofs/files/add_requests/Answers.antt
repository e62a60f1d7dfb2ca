use Rattle.std.proofs.Common.{ap, sym, ◌∙◌}
use Rattle.bundle_order_graph.specs.Nodes.{added}
use Rattle.bundle_link.specs.Files.{module_led_to}
use Rattle.bundle_link.proofs.LeadLemmas.{once-more}
use Rattle.bundle_link.proofs.files.add_requests.Goals as goal

pub loop-requested-preserved : goal.loop-requested-preserved
loop-requested-preserved c =
    let deps = c.args.deps.now in
    let i = c.loop-requested.requested-index in
    let dep = c.loop-requested-item.result in
    let adds = c.in_ok-add_edge.ensures.ok in (
      λ e. adds.requests ∙ ap (λ l. added l dep.1) (c.loop-requested.invariant.0 e) ∙ sym (once-more module_led_to deps i dep c.loop-requested-test.true c.loop-requested-item.is),
      λ m apart. adds.others m apart ∙ c.loop-requested.invariant.1 m apart,
    )
