-- The modules that were gone over have names for what they need.
use Rattle.std.proofs.Common.{ℕ, List, Option, take}
use Rattle.bundle_rules.specs.Program.{Program}
use Rattle.bundle_merge_theory.specs.made.Given.{HookAnswer, stands_written}
use Rattle.bundle_merge_names.specs.Added.{GivesNames}
use Rattle.bundle_merge_names.specs.Bundle.{AreBundleParts}
use Rattle.bundle_merge_names.proofs.ModuleLemmas.{OfPart}
use Rattle.bundle_merge_names.proofs.SomeLemmas.{IsOfSome}
use Rattle.bundle_merge_names.proofs.given.give_modules.Given as goal

abbrev pub invariant-loop-module : goal.invariant-loop-module
invariant-loop-module l =
    (p : Program) (list : List ℕ) (answers : ℕ → Option HookAnswer) →
    AreBundleParts p list answers l.bundle →
    GivesNames p list
    (IsOfSome (OfPart p (λ m. stands_written (answers m))) (take l.module l.bundle.parts.now))
    l.initial.names l.names
