use Rattle.std.proofs.Common.{take}
use Rattle.std.specs.List.{AllZip}
use Rattle.bundle_link.specs.Reached.{LeadsBy}
use Rattle.bundle_link.proofs.reached.leads_at.Given as goal

abbrev pub invariant-loop-place : goal.invariant-loop-place
invariant-loop-place l = AllZip (LeadsBy l.files.deps.now l.ids.keys) (take l.place-index l.places) l.leads.items
