use Rattle.std.proofs.Common.{take}
use Rattle.bundle_link_index.specs.Reached.{TellsAmong}
use Rattle.bundle_link_index.proofs.by_name.reached_among.Given as goal

abbrev pub invariant-loop-number : goal.invariant-loop-number
invariant-loop-number l = TellsAmong (take l.number-index l.modules) l.reach.keys l.answer
