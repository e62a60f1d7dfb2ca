use Rattle.std.proofs.Common.{take}
use Rattle.std.specs.List.{AllZip}
use Rattle.bundle_link.specs.Numbered.{IsPlacedBy}
use Rattle.bundle_link.proofs.module.leads_of_all.Given as goal

abbrev pub invariant-loop-module : goal.invariant-loop-module
invariant-loop-module l = AllZip (IsPlacedBy l.ids.keys) (take l.module-index l.modules) l.leads.items
