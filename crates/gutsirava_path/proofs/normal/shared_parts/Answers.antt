use Rattle.std.proofs.Common.{sym, arith}
use Rattle.gutsirava_path.proofs.Ways.{take_shared-more}
use Rattle.gutsirava_path.proofs.normal.shared_parts.Goals as goal

pub loop-i-preserved : goal.loop-i-preserved
loop-i-preserved c =
    take_shared-more c.args.a.now c.args.b.now c.loop-i.i _ _ (omega arith) (omega arith) (sym c.if-ne.ensures)
    c.loop-i.invariant
