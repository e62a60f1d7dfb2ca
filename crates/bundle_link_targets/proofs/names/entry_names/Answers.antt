use Rattle.std.proofs.Common.{◌==◌, get_or, inl, inr, sym, subst, take, Contains}
use Rattle.std.proofs.lemmas.List.{take_all, take_more}
use Rattle.std.proofs.lemmas.List.Elements.{Contains-push_cases}
use Rattle.bundle_link_targets.specs.Names.{IsNameIn}
use Rattle.bundle_link_index.proofs.ProgramLemmas.{got_there as place-there}
use Rattle.bundle_link_targets.proofs.CallPlaceLemmas.{entry-in, name-in}
use Rattle.bundle_link_targets.proofs.names.entry_names.Goals as goal

pub loop-other-preserved : goal.loop-other-preserved
loop-other-preserved c = λ d x there named.
    let others = c.as_slice-others.result.now in
    let i = c.loop-other.other-index in
    let adds = c.in_ok-add_names_of.ensures in
    elim (Contains-push_cases (take i others) (get_or others i 0) d (subst (λ l. Contains l d) (take_more others i 0 c.loop-other-test.true) there)) [
      | inl before ↦ adds.kept x (c.loop-other.invariant d x before named)
      | inr is ↦ adds.there x (subst (λ k. IsNameIn c.args.kinds.now k (k == c.args.which) x) (sym is) named)
    ]

pub returns : goal.returns
returns c = λ p is are x t linked.
    let others = c.as_slice-others.result.now in
    let its = entry-in linked.given in
    let place = (c.in_ok-reach.ensures p is its.d).1 its.reached in
    let there = subst (λ l. Contains l its.d) (sym c.as_slice-others.ensures.keys) (place-there c.in_ok-reach.reach.keys place.0 its.d place.1) in
    c.loop-other.invariant its.d x (subst (λ l. Contains l its.d) (sym (take_all c.loop-other.other-index others c.loop-other-test.false)) there) (name-in p c.args.kinds.now are c.args.which x its)
