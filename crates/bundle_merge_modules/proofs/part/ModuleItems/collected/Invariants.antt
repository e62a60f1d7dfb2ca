use Rattle.std.proofs.Common.{◌≡◌, []}
use Rattle.bundle_merge_modules.specs.Groups.{put_each}
use Rattle.bundle_merge_modules.specs.Calls.{groups_of}
use Rattle.bundle_merge_modules.proofs.part.ModuleItems.collected.Given as goal

abbrev pub invariant-loop-pair : goal.invariant-loop-pair
invariant-loop-pair g l = put_each (groups_of l.part) l.pair-iterator.rest.items ≡ put_each [] l.fn.items.items
