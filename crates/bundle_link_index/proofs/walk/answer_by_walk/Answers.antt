use Rattle.std.proofs.Common.{◌≡◌, ◌+◌, ◌<◌, true, length, subst, arith}
use Rattle.std.proofs.lemmas.Option.{slice_get_within}
use Rattle.bundle_link_index.specs.Graph.{NameSpot}
use Rattle.bundle_link_index.specs.Answers.{is_two}
use Rattle.bundle_link_index.specs.Given.{AddsMissing}
use Rattle.bundle_link_index.proofs.SearchLemmas.{Searching-begins, Searching-steps, Searching-two, Searching-ends, each_place}
use Rattle.bundle_link_index.proofs.walk.answer_by_walk.Goals as goal

pub loop-done-init : goal.loop-done-init
loop-done-init c = Searching-begins c.args.index.now c.args.at c.put.new.met.keys (subst (λ l. AddsMissing l (λ (other : NameSpot). other ≡ c.args.at) c.put.new.met.keys) c.new-met.ensures.empty c.in_ok-put.ensures)

pub returns-then-is_two : goal.returns-then-is_two
returns-then-is_two c =
    let g = c.args.index.now in
    let old = c.loop-done.met.keys in
    let inside : c.loop-done.done < length old = omega arith in
    let two : is_two c.in_ok-answer.answer ≡ true = cc in
    Searching-two g c.args.at c.step.new.met.keys (c.loop-done.done + 1) c.in_ok-answer.answer (Searching-steps g c.args.at c.spot_at-next.result old c.step.new.met.keys c.loop-done.done c.loop-done.answer c.in_ok-answer.answer c.loop-done.invariant c.spot_at-next.ensures inside (each_place old) c.in_ok-answer.ensures) two

pub loop-done-preserved : goal.loop-done-preserved
loop-done-preserved c =
    let g = c.args.index.now in
    let old = c.loop-done.met.keys in
    let inside : c.loop-done.done < length old = omega arith in
    Searching-steps g c.args.at c.spot_at-next.result old c.step.new.met.keys c.loop-done.done c.loop-done.answer c.in_ok-answer.answer c.loop-done.invariant c.spot_at-next.ensures inside (each_place old) c.in_ok-answer.ensures

pub returns : goal.returns
returns c = Searching-ends c.args.index.now c.args.at c.loop-done.met.keys c.loop-done.done c.loop-done.answer c.loop-done.invariant (λ i at e. omega (arith, slice_get_within c.loop-done.met.keys i at e))
