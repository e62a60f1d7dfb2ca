use Rattle.std.proofs.Common.{◌++◌, ap, sym, ◌∙◌, append-nil, append_assoc, take}
use Rattle.std.proofs.lemmas.List.{take_all}
use Rattle.std.specs.List.{flat_map}
use Rattle.bundle_rules.specs.Nodes.{each_once}
use Rattle.bundle_link_index.specs.Handed.{external_one}
use Rattle.bundle_link_tables.proofs.MarkLemmas.{flat_next as flat_more}
use Rattle.bundle_link_targets.proofs.taken.add_specifiers.Goals as goal

pub loop-source-init : goal.loop-source-init
loop-source-init c = λ before known. known ∙ ap each_once (sym (append-nil before))

pub loop-source-preserved : goal.loop-source-preserved
loop-source-preserved c = λ before known.
    let done = flat_map external_one (take c.loop-source.source-index c.args.sources.now) in
    c.in_ok-add_specifier.ensures (before ++ done) (c.loop-source.invariant before known)
    ∙ ap each_once (append_assoc before done _ ∙ ap (λ l. before ++ l) (flat_more external_one c.args.sources.now c.loop-source.source-index _ c.loop-source-test.true))

pub returns : goal.returns
returns c = λ before known.
    c.loop-source.invariant before known
    ∙ ap (λ l. each_once (before ++ flat_map external_one l)) (take_all c.loop-source.source-index c.args.sources.now c.loop-source-test.false)
