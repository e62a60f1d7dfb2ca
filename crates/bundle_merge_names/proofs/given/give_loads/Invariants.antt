-- The CommonJS modules that were gone over have names for what is taken of them.
use Rattle.std.proofs.Common.{ℕ, List, take}
use Rattle.bundle_rules.specs.Program.{Program, IsReached}
use Rattle.bundle_link_targets.specs.Linked.{HandsOver}
use Rattle.bundle_link_targets.specs.Meant.{AreModules}
use Rattle.bundle_merge_names.specs.Added.{GivesNames}
use Rattle.bundle_merge_names.proofs.ModuleLemmas.{OfLoaded}
use Rattle.bundle_merge_names.proofs.SomeLemmas.{IsOfSome}
use Rattle.bundle_merge_names.proofs.given.give_loads.Given as goal

abbrev pub invariant-loop-loaded : goal.invariant-loop-loaded
invariant-loop-loaded l =
    (p : Program) (list : List ℕ) →
    HandsOver p list l.linking →
    AreModules p →
    IsReached p l.which →
    GivesNames p list (IsOfSome (OfLoaded l.which) (take l.loaded-index l.loaded-items)) l.initial.names l.names
