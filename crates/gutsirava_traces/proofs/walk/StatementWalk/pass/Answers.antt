-- A piece is told of, and then the walk moves over it.
use Rattle.std.proofs.Common.{refl, arith}
use Rattle.gutsirava_traces.proofs.WalkLemmas.{goes_telling}
use Rattle.gutsirava_traces.proofs.walk.StatementWalk.pass.Goals as goal

pub returns : goal.returns
returns c =
    goes_telling _ c.args.self.now _ c.args.self.now.to c.args.self.now.to c.args.self.now.from c.args.self.now.from c.args.source.now _ c.args.maker.now _
    c.in_ok-tell_if.ensures
    (record { list = refl; from = omega arith; to = omega arith })
    (omega arith) (omega arith) (omega arith) (omega arith)
