use Rattle.std.proofs.Common.{take}
use Rattle.bundle_link_index.specs.Leads.{lead_of}
use Rattle.bundle_link_index.specs.Outside.{IsOutsideOf}
use Rattle.bundle_link_index.proofs.stars.outside_links.Given as goal

abbrev pub invariant-loop-number : goal.invariant-loop-number
invariant-loop-number l = IsOutsideOf (lead_of l.kinds) (take l.number l.kinds.modules.now) l.links
