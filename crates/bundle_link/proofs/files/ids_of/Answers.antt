use Rattle.std.proofs.Common.{ap, sym, ◌∙◌}
use Rattle.bundle_order_graph.specs.Nodes.{added}
use Rattle.bundle_link.specs.Files.{file_number}
use Rattle.bundle_link.proofs.LeadLemmas.{once-more}
use Rattle.bundle_link.proofs.files.ids_of.Goals as goal

pub loop-id-preserved : goal.loop-id-preserved
loop-id-preserved c =
    let files = c.args.files.now in
    let i = c.loop-id.id-index in
    let file = c.loop-id-item.result in
    c.in_ok-insert.ensures.keys
    ∙ ap (λ ids. added ids file.1) c.loop-id.invariant
    ∙ sym (once-more file_number files i file c.loop-id-test.true c.loop-id-item.is)
