-- Nothing before this place asks for it.
use Rattle.std.proofs.Common.{◌≡◌, ◌-◌}
use Rattle.gutsirava_sources.specs.Parts.{asks_for, asks_from}
use Rattle.gutsirava_sources.proofs.parts.asks_for.Given as goal

abbrev pub invariant-loop-at : goal.invariant-loop-at
invariant-loop-at l =
    asks_for l.pieces l.part l.begin l.place ≡ asks_from l.pieces l.part (l.place - l.at) l.at
