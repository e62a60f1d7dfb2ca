use Rattle.std.proofs.Common.{subst}
use Rattle.bundle_link_index.specs.Reached.{TellsStep}
use Rattle.bundle_link_index.proofs.ReachLemmas.{InLine-puts, InLine-steps, InLine-ends}
use Rattle.bundle_link_index.proofs.line.answer_in_line.Goals as goal

pub returns-in-Done-clause-all : goal.returns-in-Done-clause-all
returns-in-Done-clause-all c =
    let g = c.args.index.now in
    InLine-ends g c.args.at c.loop.end c.step_from.new.line.keys c.in-Done.answer (InLine-puts g c.args.at c.loop.end c.loop.line.keys c.step_from.new.line.keys c.loop.invariant.line c.in_ok-next.ensures.put) (subst (λ s. TellsStep g c.loop.end s) c.in-Done.is c.in_ok-next.ensures.right)

pub loop-preserved : goal.loop-preserved
loop-preserved c =
    let g = c.args.index.now in
    record {
      line = InLine-steps g c.args.at c.loop.end c.in-To.next c.step_from.new.line.keys (InLine-puts g c.args.at c.loop.end c.loop.line.keys c.step_from.new.line.keys c.loop.invariant.line c.in_ok-next.ensures.put) (subst (λ s. TellsStep g c.loop.end s) c.in-To.is c.in_ok-next.ensures.right);
      noted = c.in_ok-next.ensures.noted;
    }

pub returns-clause-all : goal.returns-clause-all
returns-clause-all c = InLine-ends c.args.index.now c.args.at c.loop.end c.loop.line.keys c.in_ok-answer.answer c.loop.invariant.line c.in_ok-answer.ensures
