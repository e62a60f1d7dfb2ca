-- The walk goes on from where it is.
use Rattle.std.proofs.Common.{arith}
use Rattle.gutsirava_traces.proofs.WalkLemmas.{goes_nowhere, goes_then}
use Rattle.gutsirava_traces.proofs.walk.StatementWalk.go_over.Goals as goal

pub loop-init : goal.loop-init
loop-init c = goes_nowhere c.args.self.now c.args.source.now c.args.maker.now _ (omega arith)

pub loop-preserved : goal.loop-preserved
loop-preserved c =
    goes_then _ c.args.self.now c.loop.self _ c.args.source.now c.loop.source _ c.args.maker.now c.loop.maker _
    c.loop.invariant c.in_ok-step.ensures

pub returns-then-self-eq0-clause-goes : goal.returns-then-self-eq0-clause-goes
returns-then-self-eq0-clause-goes c =
    goes_then _ c.args.self.now c.loop.self _ c.args.source.now c.loop.source _ c.args.maker.now c.loop.maker _
    c.loop.invariant c.in_ok-step.ensures
