use Rattle.std.proofs.Common.{◌≡◌, ◌++◌}
use Rattle.std.specs.Prelude.{map}
use Rattle.bundle_merge_modules.specs.Groups.{owned}
use Rattle.bundle_merge_modules.specs.Calls.{group_items, groups_of}
use Rattle.bundle_merge_modules.proofs.part.ModuleItems.move_into.Given as goal

abbrev pub invariant-loop-items : goal.invariant-loop-items
invariant-loop-items g l = l.all.items ++ map (λ o. o.1) (owned (map group_items l.items-iterator)) ≡ l.fn.all.items ++ map (λ o. o.1) (owned (groups_of l.fn.self))
