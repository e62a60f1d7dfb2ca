use Rattle.bundle_link_targets.specs.Names.{texts_in}
use Rattle.bundle_link_targets.proofs.CallPlaceLemmas.{gains-step}
use Rattle.bundle_link_targets.proofs.names.add_names.Goals as goal

pub loop-export-preserved : goal.loop-export-preserved
loop-export-preserved c = gains-step c.args.exports.now c.loop-export.export-index _ c.args.is_own (texts_in c.args.names.now) (texts_in c.loop-export.names) (texts_in c.add_name.new.names) c.loop-export-test.true c.loop-export.invariant c.in_ok-add_name.ensures
