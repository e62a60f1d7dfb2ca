-- What stands before the statement, and then the statement.
use Rattle.std.proofs.Common.{arith}
use Rattle.gutsirava_traces.specs.Told.{first_of}
use Rattle.gutsirava_traces.proofs.ToldLemmas.{first_low, tells_none, walk_began}
use Rattle.gutsirava_traces.proofs.WalkLemmas.{goes_then, walk_tells}
use Rattle.gutsirava_traces.proofs.walk.StatementWalk.run.Goals as goal

pub returns-then-eq-clause-told : goal.returns-then-eq-clause-told
returns-then-eq-clause-told c = record {
  own_last = c.args.self.from;
  tells = tells_none c.args.self.list _ _ _ _ c.args.source.now c.args.maker.now (omega arith) (omega arith);
}

pub returns-clause-told : goal.returns-clause-told
returns-clause-told c =
    walk_tells _ _ c.args.self c.go_over.new.self c.args.source.now _ c.args.maker.now _
    (goes_then _ c.args.self c.begin.new.self _ c.args.source.now c.begin.new.source _ c.args.maker.now c.begin.new.maker _
    c.in_ok-behind.ensures.goes c.in_ok-end.ensures.goes)
    (omega (arith, c.in_ok-end.ensures.end))

pub returns-clause-begun : goal.returns-clause-begun
returns-clause-begun c = λ print somewhere. record {
  mid_source = c.begin.new.source;
  mid = c.begin.new.maker;
  begins = c.in_ok-behind.ensures.one print somewhere;
  more = walk_began c.args.self.list c.begin.new.self.list c.args.self.to c.begin.new.self.to _
      (first_of c.args.self.own.form c.args.self.from) c.begin.new.self.from c.begin.new.source _ c.begin.new.maker _
      c.in_ok-behind.ensures.goes.moved.list (omega (arith, c.in_ok-behind.ensures.goes.moved.to))
      (omega (arith, first_low c.args.self.own.form c.args.self.from, c.in_ok-behind.ensures.goes.moved.from))
      (walk_tells c.begin.new.self.from _ c.begin.new.self c.go_over.new.self c.begin.new.source _ c.begin.new.maker _
      c.in_ok-end.ensures.goes (omega (arith, c.in_ok-end.ensures.end)));
}
