-- A place at which the name is no value is passed over.
use Rattle.std.proofs.Common.{length, sym, ◌∙◌, arith}
use Rattle.gutsirava_sources.proofs.Steps.{reads_from_step}
use Rattle.gutsirava_sources.proofs.parts.reads_properties.Goals as goal

pub loop-at-preserved : goal.loop-at-preserved
loop-at-preserved c =
    c.loop-at.invariant
    ∙ reads_from_step c.args.pieces.now c.args.local.now (length c.args.pieces.now) c.loop-at.at (omega arith) (sym c.is_value.ensures ∙ c.if-is_value.false)
