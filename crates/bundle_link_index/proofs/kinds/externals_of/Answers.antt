use Rattle.std.proofs.Common.{◌++◌, ap, ◌∙◌, take}
use Rattle.std.specs.List.{flat_map}
use Rattle.bundle_rules.specs.Nodes.{has_text}
use Rattle.bundle_link_index.specs.Handed.{external_one, externals_by, externals_of}
use Rattle.bundle_link_tables.proofs.MarkLemmas.{flat_next as flat_more}
use Rattle.bundle_link_index.proofs.kinds.externals_of.Goals as goal

pub loop-module-preserved : goal.loop-module-preserved
loop-module-preserved c = λ x.
    let done = externals_of (take c.loop-module.module-index c.args.modules.now) in
    c.in_ok-add_externals.ensures done c.loop-module.invariant x
    ∙ ap (λ l. has_text x (done ++ flat_map external_one l)) c.deref.ensures.value
    ∙ ap (λ m. has_text x (done ++ externals_by m)) c.module-item.is
    ∙ ap (has_text x) (flat_more externals_by c.args.modules.now c.loop-module.module-index c.module-item.result c.loop-module-test.true)
