-- What is told of a statement, or of what stands for none.
use Rattle.std.proofs.Common.{◌≡◌, ◌-◌, slice_get, ap, arith}
use Rattle.gutsirava_traces.specs.Told.{begin_in}
use Rattle.gutsirava_traces.proofs.ToldLemmas.{begins_there, other_tells, walk_began}
use Rattle.gutsirava_traces.proofs.maker.MapMaker.add_statement.Goals as goal

pub returns-in_ok-behind-in-Some-clause-told : goal.returns-in_ok-behind-in-Some-clause-told
returns-in_ok-behind-in-Some-clause-told c =
    let begin : c.in-Some.own.at - 1 ≡ begin_in (slice_get c.args.source.now.trace.now.statements.items c.args.statement) =
    ap begin_in c.in-Some.ensures in
    walk_began c.args.list c.new-walk.result.list c.args.at c.new-walk.result.to _ _ _ c.args.source.now _ c.args.self.now _
    c.new-walk.ensures.list (omega (arith, c.new-walk.ensures.to)) (omega (arith, begin, c.new-walk.ensures.from)) c.in_ok-behind-in-Some.ensures.told

pub returns-in_ok-behind-in-None-clause-told : goal.returns-in_ok-behind-in-None-clause-told
returns-in_ok-behind-in-None-clause-told c =
    other_tells c.args.list c.args.at _ _ c.args.at c.args.source.now c.args.self.now _ (omega arith)
    (omega (arith, c.in_ok-behind-in-None.ensures.behind)) c.in_ok-behind-in-None.ensures.told

pub returns-in_ok-behind-in-Some-clause-begun : goal.returns-in_ok-behind-in-Some-clause-begun
returns-in_ok-behind-in-Some-clause-begun c = rw (← c.in-Some.ensures)
    (begins_there c.new-walk.result.list c.args.list c.new-walk.result.own c.in-Some.own c.new-walk.result.from c.args.at
    c.new-walk.result.to _ c.args.source.now _ c.args.self.now _ c.new-walk.ensures.list c.new-walk.ensures.own c.new-walk.ensures.from
    c.new-walk.ensures.to c.in_ok-behind-in-Some.ensures.begun)

pub returns-in_ok-behind-in-None-clause-begun : goal.returns-in_ok-behind-in-None-clause-begun
returns-in_ok-behind-in-None-clause-begun c = rw (← c.in-None.ensures) tt
