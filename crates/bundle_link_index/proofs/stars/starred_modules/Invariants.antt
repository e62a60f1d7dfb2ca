use Rattle.std.proofs.Common.{◌≡◌, take}
use Rattle.bundle_link_index.specs.Leads.{lead_of}
use Rattle.bundle_link_index.specs.Numbered.{starred}
use Rattle.bundle_link_index.proofs.stars.starred_modules.Given as goal

abbrev pub invariant-loop-star : goal.invariant-loop-star
invariant-loop-star l = l.modules.items ≡ starred (lead_of l.kinds l.number) (take l.star-index l.tables.stars.items)
