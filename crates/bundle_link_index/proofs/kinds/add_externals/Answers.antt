use Rattle.std.proofs.Common.{◌++◌, ap, sym, ◌∙◌, append-nil, append_assoc, take}
use Rattle.std.proofs.lemmas.List.{take_all}
use Rattle.std.specs.List.{flat_map}
use Rattle.bundle_rules.specs.Nodes.{has_text}
use Rattle.bundle_link_index.specs.Handed.{external_one}
use Rattle.bundle_link_tables.proofs.MarkLemmas.{flat_next as flat_more}
use Rattle.bundle_link_index.proofs.kinds.add_externals.Goals as goal

pub loop-source-init : goal.loop-source-init
loop-source-init c = λ before known x. known x ∙ ap (has_text x) (sym (append-nil before))

pub loop-source-preserved : goal.loop-source-preserved
loop-source-preserved c = λ before known x.
    let done = flat_map external_one (take c.loop-source.source-index c.args.sources.now) in
    c.in_ok-add_external.ensures (before ++ done) (c.loop-source.invariant before known) x
    ∙ ap (has_text x) (append_assoc before done _ ∙ ap (λ l. before ++ l) (flat_more external_one c.args.sources.now c.loop-source.source-index _ c.loop-source-test.true))

pub returns : goal.returns
returns c = λ before known x.
    c.loop-source.invariant before known x
    ∙ ap (λ l. has_text x (before ++ flat_map external_one l)) (take_all c.loop-source.source-index c.args.sources.now c.loop-source-test.false)
