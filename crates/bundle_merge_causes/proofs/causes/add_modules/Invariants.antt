-- The causes of the modules before are added.
use Rattle.std.proofs.Common.{zero}
use Rattle.std.specs.Prelude.{flat_map}
use Rattle.bundle_merge_theory.specs.planned.Decided.{numbers_from}
use Rattle.bundle_merge_causes.specs.Planned.{Adds, whole_plan}
use Rattle.bundle_merge_causes.specs.Told.{causes_told}
use Rattle.bundle_merge_causes.proofs.causes.add_modules.Given as goal

abbrev pub invariant-loop-which : goal.invariant-loop-which
invariant-loop-which l =
    Adds l.linking l.shapes (λ d. flat_map (whole_plan d) (numbers_from zero l.which))
    (causes_told l.initial.causes.items) (causes_told l.causes.items)
