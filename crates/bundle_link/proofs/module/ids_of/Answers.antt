use Rattle.std.proofs.Common.{ap, sym, ◌∙◌}
use Rattle.bundle_order_graph.specs.Nodes.{added}
use Rattle.bundle_link.specs.declared.module.NumberedModule.{NumberedModule}
use Rattle.bundle_link.proofs.LeadLemmas.{once-more}
use Rattle.bundle_link.proofs.module.ids_of.Goals as goal

pub loop-module-preserved : goal.loop-module-preserved
loop-module-preserved c =
    let its = c.module-item.result in
    c.in_ok-insert.ensures.keys
    ∙ ap (λ id. added c.loop-module.ids.keys id) c.from_u32.ensures
    ∙ ap (λ ids. added ids its.id) c.loop-module.invariant
    ∙ sym (once-more (λ (its : NumberedModule). its.id) c.args.modules.now c.loop-module.module-index its c.loop-module-test.true c.module-item.is)
