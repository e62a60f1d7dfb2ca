use Rattle.std.proofs.Common.{◌≡◌, take}
use Rattle.std.specs.BTreeMap.{get_by_text}
use Rattle.bundle_rules.specs.Nodes.{Text}
use Rattle.bundle_link.specs.Leads.{module_place, last_told}
use Rattle.bundle_link.proofs.module.leads_of.Given as goal

abbrev pub invariant-loop-specifier : goal.invariant-loop-specifier
invariant-loop-specifier l = (s : Text) → get_by_text l.leads s ≡ last_told (module_place l.ids.keys) (take l.specifier-index l.deps) s
