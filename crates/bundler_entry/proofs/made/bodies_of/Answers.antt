-- Each module that is gone over goes last.
use Rattle.bundler_entry.proofs.PartsLemmas.{bodies-more}
use Rattle.bundler_entry.proofs.made.bodies_of.Goals as goal

pub loop-which-preserved : goal.loop-which-preserved
loop-which-preserved c = λ q linking.
    bodies-more q c.args.call.now c.args.reached.now c.loop-which.which c.loop-which.bodies.items
    _ _ c.in_ok-push.ensures.items (c.in_ok-body_at.ensures q linking)
    (c.loop-which.invariant q linking)
