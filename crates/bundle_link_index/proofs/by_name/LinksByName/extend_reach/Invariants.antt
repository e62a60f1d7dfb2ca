use Rattle.std.proofs.Common.{◌-◌, ◌^◌}
use Rattle.bundle_link_index.specs.Reached.{Reaching}
use Rattle.bundle_link_index.proofs.by_name.LinksByName.extend_reach.Given as goal

abbrev pub invariant-loop-done : goal.invariant-loop-done
invariant-loop-done l = Reaching l.self l.start l.fn.reach.keys l.reach.keys l.done

abbrev pub decreases-loop-done : goal.decreases-loop-done
decreases-loop-done l = 2 ^ 63 - l.done
