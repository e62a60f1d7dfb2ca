-- One more bundle is finished; where none is left, all are.
use Rattle.std.proofs.Common.{◌≡◌, rules, sym, ◌∙◌}
use Rattle.std.proofs.lemmas.List.{nil_from_length}
use Rattle.bundler_call.proofs.Sources.{finished_all, finished_more, finished_none}
use Rattle.bundler_call.proofs.bundler.finished_bundles.Goals as goal

pub loop-bundle-init : goal.loop-bundle-init
loop-bundle-init c =
    let same : c.into_iter-bundle-iterator.result.rest.items ≡ c.args.merged.items = search rules in
    finished_none c.args.config.now c.args.merged.items c.into_iter-bundle-iterator.result.rest.items c.new-bundles.result.items same c.new-bundles.ensures.items

pub loop-bundle-preserved : goal.loop-bundle-preserved
loop-bundle-preserved c =
    finished_more c.args.config.now c.args.merged.items _ _ c.loop-bundle.bundles.items _ c.in-Some.bundle c.in_ok-finished_bundle.field-0 c.in-Some.ensures.steps.0 c.in_ok-push.ensures.items c.in_ok-finished_bundle.ensures c.loop-bundle.invariant

pub returns : goal.returns
returns c =
    let rest = c.loop-bundle.bundle-iterator.rest in
    finished_all c.args.config.now c.args.merged.items rest.items c.loop-bundle.bundles.items (nil_from_length rest.items (sym rest.ok.0 ∙ c.in-None.ensures.steps.0)) c.loop-bundle.invariant
