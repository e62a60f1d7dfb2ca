-- What is told of a function: its begin, its statements, its end.
use Rattle.std.proofs.Common.{arith}
use Rattle.gutsirava_traces.specs.Told.TellsParts.{NoPart, Part}
use Rattle.gutsirava_traces.proofs.ToldLemmas.{other_tells, parts_then}
use Rattle.gutsirava_traces.proofs.maker.MapMaker.add_function.Goals as goal

pub returns-clause-told : goal.returns-clause-told
returns-clause-told c =
    let list = c.args.list in
    let at = c.args.at in
    let begin = c.begin_of_body-begin.result in
    let next = c.in_ok-next.next in
    let last = c.saturating_add.result in
    let source = c.args.source.now in
    let mid = c.add_statements.new.source in
    Part next last 0 mid mid c.add_statements.new.self _
    (parts_then list at begin source source c.args.self.now c.tell_other.new.self next mid c.add_statements.new.self
    (Part at begin 0 source source c.args.self.now c.tell_other.new.self NoPart
    (other_tells list at begin 0 at source c.args.self.now c.tell_other.new.self (omega arith) c.begin_of_body-begin.ensures c.in_ok-tell_other.ensures))
    c.in_ok-next.ensures.told)
    (other_tells list next last 0 next mid c.add_statements.new.self _ (omega arith) (omega arith) c.in_ok-tell_other-2.ensures)
