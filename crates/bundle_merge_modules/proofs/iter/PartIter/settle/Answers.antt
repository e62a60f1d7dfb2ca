use Rattle.std.proofs.Common.{length, sym, ap, ◌∙◌, arith, eqb-true, eq-eqb}
use Rattle.std.proofs.lemmas.Bool.{false≢true}
use Rattle.std.proofs.lemmas.List.{nil_from_length}
use Rattle.bundle_merge_modules.proofs.PourLemmas.{settle_more}
use Rattle.bundle_merge_modules.proofs.iter.PartIter.settle.Goals as goal

pub loop-self-preserved : goal.loop-self-preserved
loop-self-preserved g c =
    let none = nil_from_length c.loop-self.self.items.now (eqb-true (length c.loop-self.self.items.now) 0 (sym c.loop-self-test.ensures)) in
    settle_more c.loop-self.self c.in-Some.id.now c.in-Some.items.now c.as_slice-self.result.now c.next.new.self none c.in-Some.ensures.steps c.as_slice-self.ensures.value ∙ c.loop-self.invariant

pub loop-self-smaller : goal.loop-self-smaller
loop-self-smaller g c = omega (arith, ap length c.in-Some.ensures.steps)

pub returns-in-None-clause-settled : goal.returns-in-None-clause-settled
returns-in-None-clause-settled g c = λ _. c.in-None.ensures.steps.1

pub returns-clause-settled : goal.returns-clause-settled
returns-clause-settled g c = λ e. absurd (false≢true (c.loop-self-test.ensures ∙ eq-eqb (length c.loop-self.self.items.now) 0 (ap length e)))
