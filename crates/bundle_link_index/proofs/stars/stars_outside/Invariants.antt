use Rattle.std.proofs.Common.{◌≡◌, false, take}
use Rattle.bundle_link_index.specs.Leads.{lead_of}
use Rattle.bundle_link_index.specs.Outside.{stars_outside}
use Rattle.bundle_link_index.proofs.stars.stars_outside.Given as goal

abbrev pub invariant-loop-star : goal.invariant-loop-star
invariant-loop-star l = stars_outside (lead_of l.kinds l.number) (take l.star-index l.stars) ≡ false
