-- What is added in turn is due.
use Rattle.std.proofs.Common.{subst}
use Rattle.bundle_merge_theory.specs.planned.Decided.{front_plan}
use Rattle.bundle_merge_causes.specs.Planned.{Adds}
use Rattle.bundle_merge_causes.specs.Told.{causes_told}
use Rattle.bundle_merge_causes.proofs.Due.{added-due}
use Rattle.bundle_merge_causes.proofs.causes.causes_of.Goals as goal

pub returns : goal.returns
returns c = λ q blocks linked decided.
    added-due c.args.linking.now c.args.shapes.now c.args.is_call q blocks
    (causes_told c.add_front.new.causes.items) (causes_told c.add_modules.new.causes.items)
    (causes_told c.add_back.new.causes.items) linked decided
    (subst
    (λ xs. Adds c.args.linking.now c.args.shapes.now (λ d. front_plan d) (causes_told xs)
    (causes_told c.add_front.new.causes.items)) c.new-causes.ensures.items c.in_ok-add_front.ensures)
    c.in_ok-add_modules.ensures c.in_ok-add_back.ensures
