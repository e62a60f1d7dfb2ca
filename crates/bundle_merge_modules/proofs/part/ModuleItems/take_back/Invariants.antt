use Rattle.std.proofs.Common.{◌≡◌}
use Rattle.bundle_merge_modules.specs.Calls.{groups_of}
use Rattle.bundle_merge_modules.specs.Groups.{undone}
use Rattle.bundle_merge_modules.proofs.part.ModuleItems.take_back.Given as goal

abbrev pub invariant-loop-noted : goal.invariant-loop-noted
invariant-loop-noted g l = undone l.rest.items (groups_of l.self) ≡ undone l.fn.log.items (groups_of l.fn.self)

abbrev pub decreases-loop-noted : goal.decreases-loop-noted
decreases-loop-noted g l = goal.left-loop-noted g l
