-- The walk moves over what stands in one list alone.
use Rattle.std.proofs.Common.{refl, arith}
use Rattle.gutsirava_traces.proofs.WalkLemmas.{goes_quietly}
use Rattle.gutsirava_traces.proofs.walk.StatementWalk.step.Goals as goal

pub returns-in-End-default : goal.returns-in-End-default
returns-in-End-default c =
    goes_quietly _ c.args.self.now _ c.args.source.now c.args.maker.now
    (record { list = refl; from = omega arith; to = c.behind-self.ensures.behind })
    (omega arith)

pub returns-in_default-End : goal.returns-in_default-End
returns-in_default-End c =
    goes_quietly _ c.args.self.now _ c.args.source.now c.args.maker.now
    (record { list = refl; from = c.behind-self-in_default-End.ensures; to = omega arith })
    (omega arith)
