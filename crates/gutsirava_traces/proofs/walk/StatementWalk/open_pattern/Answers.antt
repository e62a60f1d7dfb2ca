-- The name is told of, and then the walk moves over its key.
use Rattle.std.proofs.Common.{arith}
use Rattle.std.proofs.lemmas.Result.{on_ok_weaker}
use Rattle.gutsirava_traces.proofs.WalkLemmas.{goes_telling}
use Rattle.gutsirava_traces.proofs.walk.StatementWalk.open_pattern.Goals as goal

pub returns : goal.returns
returns c = on_ok_weaker c.open_default.result
    (λ moved. goes_telling _ c.args.self.now _ c.saturating_add-self-2.result c.saturating_add-self-2.result c.saturating_add-self.result c.saturating_add-self.result c.args.source.now _ c.args.maker.now _
    c.in_ok-tell.ensures.tells
    (record { list = moved.list; from = omega (arith, moved.from); to = omega (arith, moved.to, c.behind-self.ensures.behind) })
    (omega arith) (omega (arith, moved.to, c.behind-self.ensures.behind)) (omega arith) moved.from)
    c.open_default.ensures
