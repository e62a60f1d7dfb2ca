use Rattle.std.proofs.Common.{◌-◌, ◌^◌}
use Rattle.bundle_link_index.specs.Given.{Searching}
use Rattle.bundle_link_index.proofs.walk.answer_by_walk.Given as goal

abbrev pub invariant-loop-done : goal.invariant-loop-done
invariant-loop-done l = Searching l.index l.fn.at l.met.keys l.done l.answer

abbrev pub decreases-loop-done : goal.decreases-loop-done
decreases-loop-done l = 2 ^ 63 - l.done
