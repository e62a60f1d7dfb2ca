use Rattle.std.proofs.Common.{[]}
use Rattle.std.specs.Prelude.{map}
use Rattle.bundle_merge_modules.specs.Groups.{IsMapped, ItemsAnswered, owned}
use Rattle.bundle_merge_modules.specs.Calls.{RefusesItemOf, RepliesOf, group_items, groups_of}
use Rattle.bundle_merge_modules.proofs.part.ModuleItems.mapped_items.Given as goal

abbrev pub invariant-loop-id : goal.invariant-loop-id
invariant-loop-id g l =
    ((to : _) → IsMapped (ItemsAnswered (RepliesOf (goal.F-post g l.f))) (groups_of l.mapped) (map group_items l.id-iterator) to → IsMapped (ItemsAnswered (RepliesOf (goal.F-post g l.f))) [] (groups_of l.self) to)
    × ((refusal : _) → RefusesItemOf (goal.F-post g l.f) refusal (owned (map group_items l.id-iterator)) → RefusesItemOf (goal.F-post g l.f) refusal (owned (groups_of l.self)))
