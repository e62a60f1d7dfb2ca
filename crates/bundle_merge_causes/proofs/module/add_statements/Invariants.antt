-- The causes of the statements before are added.
use Rattle.std.proofs.Common.{◌≡◌, ◌++◌, map, zero}
use Rattle.bundle_rules.specs.Bundle.{Own}
use Rattle.bundle_merge_theory.specs.planned.Decided.{numbers_from}
use Rattle.bundle_merge_causes.specs.Told.{causes_told}
use Rattle.bundle_merge_causes.proofs.module.add_statements.Given as goal

abbrev pub invariant-loop-statement : goal.invariant-loop-statement
invariant-loop-statement l =
    causes_told l.causes.items
    ≡ causes_told l.initial.causes.items ++ map (Own l.which) (numbers_from zero l.statement)
