-- The externals that were gone over have names.
use Rattle.std.proofs.Common.{ℕ, List, take}
use Rattle.bundle_rules.specs.Program.{Program}
use Rattle.bundle_link_targets.specs.Linked.{HandsOver}
use Rattle.bundle_link_targets.specs.Meant.{AreModules}
use Rattle.bundle_merge_names.specs.Added.{GivesNames}
use Rattle.bundle_merge_names.proofs.ModuleLemmas.{OfExternal}
use Rattle.bundle_merge_names.proofs.SomeLemmas.{IsOfSome}
use Rattle.bundle_merge_names.proofs.given.give_externals.Given as goal

abbrev pub invariant-loop-external : goal.invariant-loop-external
invariant-loop-external l =
    (p : Program) (list : List ℕ) →
    HandsOver p list l.linking →
    AreModules p →
    GivesNames p list (IsOfSome OfExternal (take l.external-index l.external-items)) l.initial.names l.names
