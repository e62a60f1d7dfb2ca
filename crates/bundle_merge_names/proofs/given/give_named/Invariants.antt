-- The names that were gone over have names.
use Rattle.std.proofs.Common.{ℕ, List, take}
use Rattle.bundle_rules.specs.Program.{Program}
use Rattle.bundle_link_index.specs.Says.{target_of}
use Rattle.bundle_link_targets.specs.Linked.{HandsOver}
use Rattle.bundle_link_targets.specs.Symbols.{IsTakable}
use Rattle.bundle_merge_names.specs.Added.{GivesNames, IsNamedOf}
use Rattle.bundle_merge_names.proofs.given.give_named.Given as goal

abbrev pub invariant-loop-name : goal.invariant-loop-name
invariant-loop-name l =
    (p : Program) (list : List ℕ) →
    HandsOver p list l.linking →
    IsTakable p (target_of l.base) →
    GivesNames p list (IsNamedOf (target_of l.base) (take l.name-index l.its)) l.initial.names l.names
