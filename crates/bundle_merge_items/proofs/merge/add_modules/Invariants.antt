-- The items of the modules that were passed are added.
use Rattle.std.proofs.Common.{take}
use Rattle.std.specs.Prelude.{flat_map}
use Rattle.bundle_merge_items.specs.Blocks.{AddsOwned, AreBundleModules}
use Rattle.bundle_merge_theory.specs.planned.Decided.{module_plan}
use Rattle.bundle_merge_items.proofs.merge.add_modules.Given as goal

abbrev pub invariant-loop-which : goal.invariant-loop-which
invariant-loop-which l =
    AreBundleModules l.bundle l.which-items →
    AddsOwned l.bundle l.names (λ d. flat_map (module_plan d) (take l.which-index l.which-items))
    l.initial.its l.its l.initial.owners.items l.owners.items
