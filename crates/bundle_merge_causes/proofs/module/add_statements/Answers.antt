-- A statement more has its cause.
use Rattle.bundle_merge_causes.specs.Told.{causes_told}
use Rattle.bundle_merge_causes.proofs.Plans.{statements-next}
use Rattle.bundle_merge_causes.proofs.module.add_statements.Goals as goal

pub loop-statement-preserved : goal.loop-statement-preserved
loop-statement-preserved c =
    statements-next c.args.which c.loop-statement.statement (causes_told c.args.causes.now.items)
    (causes_told c.loop-statement.causes.items) (causes_told c.add.new.causes.items)
    c.loop-statement.invariant c.in_ok-add.ensures
