-- One more piece of what is skipped is told of.
use Rattle.std.proofs.Common.{◌+◌, arith}
use Rattle.gutsirava_traces.proofs.ToldLemmas.{tells_then, tells_wider}
use Rattle.gutsirava_traces.proofs.walk.StatementWalk.skip.Goals as goal

pub loop-at-preserved : goal.loop-at-preserved
loop-at-preserved c =
    let list = c.args.self.now.list in
    let first = c.args.self.now.to in
    let from = c.args.self.now.from in
    let at = c.loop-at.at in
    let own = c.named_at-own.result in
    tells_then list first at from own at (at + 1) own own c.args.source.now c.loop-at.source _ c.args.maker.now c.loop-at.maker _
    c.loop-at.invariant
    (tells_wider list at (at + 1) own own at at own own c.loop-at.source _ c.loop-at.maker _ c.in_ok-tell_named.ensures (omega arith) (omega arith) (omega arith) (omega arith))
    (omega arith) (omega arith)
