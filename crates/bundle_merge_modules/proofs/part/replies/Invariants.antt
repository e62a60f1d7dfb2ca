use Rattle.std.proofs.Common.{take}
use Rattle.std.specs.List.{AllZip}
use Rattle.bundle_merge_modules.specs.Calls.{RepliesOf}
use Rattle.bundle_merge_modules.proofs.part.replies.Given as goal

abbrev pub invariant-loop-item : goal.invariant-loop-item
invariant-loop-item g l = AllZip (RepliesOf (goal.F-post g l.f) l.id) (take l.item-index l.items) l.replies.items
