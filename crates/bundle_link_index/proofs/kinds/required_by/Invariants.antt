use Rattle.std.proofs.Common.{take}
use Rattle.bundle_link_index.specs.Handed.{HoldsNumbers, required_by}
use Rattle.bundle_link_index.proofs.kinds.required_by.Given as goal

abbrev pub invariant-loop-number : goal.invariant-loop-number
invariant-loop-number l = HoldsNumbers l.required (required_by l.modules (take l.number-index l.list))
