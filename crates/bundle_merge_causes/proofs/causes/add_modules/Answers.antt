-- A module more has its causes.
use Rattle.bundle_merge_causes.specs.Told.{causes_told}
use Rattle.bundle_merge_causes.proofs.Plans.{modules-next}
use Rattle.bundle_merge_causes.proofs.causes.add_modules.Goals as goal

pub loop-which-preserved : goal.loop-which-preserved
loop-which-preserved c =
    modules-next c.args.linking.now c.args.shapes.now c.loop-which.which
    (causes_told c.args.causes.now.items) (causes_told c.loop-which.causes.items)
    (causes_told c.add_module.new.causes.items) c.loop-which.invariant c.in_ok-add_module.ensures
