use Rattle.std.proofs.Common.{take}
use Rattle.bundle_link_index.specs.Leads.{lead_of}
use Rattle.bundle_link_index.specs.Numbered.{HoldsAt, IsEmpty, all_notes, all_starred}
use Rattle.bundle_link_index.proofs.index.links_of.Given as goal

abbrev pub invariant-loop-number : goal.invariant-loop-number
invariant-loop-number l = IsEmpty l.fn.numbers → HoldsAt (all_notes (lead_of l.kinds) 0 (take l.number l.kinds.modules.now)) (all_starred (lead_of l.kinds) 0 (take l.number l.kinds.modules.now)) l.numbers l.links
