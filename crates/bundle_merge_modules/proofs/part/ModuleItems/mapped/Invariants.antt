use Rattle.std.proofs.Common.{[]}
use Rattle.std.specs.Prelude.{map}
use Rattle.bundle_merge_modules.specs.Groups.{IsMapped}
use Rattle.bundle_merge_modules.specs.Calls.{AnswersOf, RefusesListOf, group_items, groups_of}
use Rattle.bundle_merge_modules.proofs.part.ModuleItems.mapped.Given as goal

abbrev pub invariant-loop-id : goal.invariant-loop-id
invariant-loop-id g l =
    ((to : _) → IsMapped (AnswersOf (goal.F-post g l.f)) (groups_of l.mapped) (map group_items l.id-iterator) to → IsMapped (AnswersOf (goal.F-post g l.f)) [] (groups_of l.self) to)
    × ((refusal : _) → RefusesListOf (goal.F-post g l.f) refusal (map group_items l.id-iterator) → RefusesListOf (goal.F-post g l.f) refusal (groups_of l.self))
