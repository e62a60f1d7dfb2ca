use Rattle.std.proofs.Common.{◌≡◌, ◌+◌, ◌^◌, ◌<◌, length}
use Rattle.std.specs.Prelude.{map}
use Rattle.bundle_merge_modules.specs.Groups.{owned}
use Rattle.bundle_merge_modules.specs.Calls.{group_items, groups_of}
use Rattle.bundle_merge_modules.proofs.part.ModuleItems.count.Given as goal

abbrev pub invariant-loop-items : goal.invariant-loop-items
invariant-loop-items g l = record {
  counted : l.count + length (owned (map group_items l.items-iterator)) ≡ l.fn.besides + length (owned (groups_of l.fn.self));
  fits : l.count < 2 ^ 64;
}
