-- One object more, if it is meant.
use Rattle.bundle_merge_theory.specs.planned.Decided.{object_plan}
use Rattle.bundle_merge_items.proofs.Behind.{owned-next, owned-none, owned-all}
use Rattle.bundle_merge_items.proofs.merge.add_objects.Goals as goal

pub loop-which-init : goal.loop-which-init
loop-which-init c = owned-none c.args.bundle.now c.args.names.now c.args.its.now c.args.owners.now.items

pub loop-which-preserved : goal.loop-which-preserved
loop-which-preserved c =
    owned-next c.args.bundle.now c.args.names.now object_plan c.deref-which-items.result.now
    c.loop-which.which-index 0 c.args.its.now c.loop-which.its c.put_object.new.its
    c.args.owners.now.items c.loop-which.owners.items c.put_object.new.owners.items
    c.loop-which-test.true c.loop-which.invariant c.in_ok-put_object.ensures

pub returns : goal.returns
returns c =
    owned-all c.args.bundle.now c.args.names.now object_plan c.deref-which-items.result.now
    c.args.block.now.places.items c.loop-which.which-index c.args.its.now c.loop-which.its
    c.args.owners.now.items c.loop-which.owners.items c.loop-which-test.false
    c.deref-which-items.ensures.value c.loop-which.invariant
