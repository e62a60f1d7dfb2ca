-- A place that does not ask for the part is passed over.
use Rattle.std.proofs.Common.{sym, ◌∙◌, arith}
use Rattle.gutsirava_sources.proofs.Steps.{asks_from_step}
use Rattle.gutsirava_sources.proofs.parts.asks_for.Goals as goal

pub loop-at-preserved : goal.loop-at-preserved
loop-at-preserved c =
    c.loop-at.invariant
    ∙ asks_from_step c.args.pieces.now c.args.part c.args.request.now.place c.loop-at.at (omega arith) (sym c.asks_at.ensures ∙ c.if-asks_at.false)
