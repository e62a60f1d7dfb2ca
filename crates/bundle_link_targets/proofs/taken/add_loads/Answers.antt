use Rattle.std.proofs.Common.{[], ◌++◌, ap, sym, ◌∙◌, append-nil, append_assoc, take}
use Rattle.std.specs.Prelude.{filter_map}
use Rattle.std.specs.List.{cons_option}
use Rattle.std.proofs.lemmas.List.{take_all}
use Rattle.bundle_rules.specs.Nodes.{numbers_once}
use Rattle.bundle_link_targets.specs.Taken.{module_loaded_by}
use Rattle.bundle_link_targets.proofs.TakenLemmas.{filter-more}
use Rattle.bundle_link_targets.proofs.taken.add_loads.Goals as goal

pub loop-source-init : goal.loop-source-init
loop-source-init c = λ before known. known ∙ ap numbers_once (sym (append-nil before))

pub loop-source-preserved : goal.loop-source-preserved
loop-source-preserved c = λ before known.
    let h = module_loaded_by c.args.kinds.now c.args.taker in
    let sources = c.args.sources.now in
    let done = filter_map h (take c.loop-source.source-index sources) in
    c.in_ok-add_number.ensures (before ++ done) (c.loop-source.invariant before known)
    ∙ ap (λ o. numbers_once ((before ++ done) ++ cons_option o [])) c.load_of.ensures
    ∙ ap numbers_once (append_assoc before done _ ∙ ap (λ l. before ++ l) (filter-more h sources c.loop-source.source-index _ c.loop-source-test.true))

pub returns : goal.returns
returns c = λ before known.
    c.loop-source.invariant before known
    ∙ ap (λ l. numbers_once (before ++ filter_map (module_loaded_by c.args.kinds.now c.args.taker) l)) (take_all c.loop-source.source-index c.args.sources.now c.loop-source-test.false)
