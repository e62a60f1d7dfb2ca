use Rattle.std.proofs.Common.{map, sym, ◌∙◌, subst}
use Rattle.std.proofs.lemmas.List.{take_all}
use Rattle.std.specs.List.{IsDistinct}
use Rattle.bundle_link_index.specs.Says.{target_of}
use Rattle.bundle_link_index.specs.contracts.target.TargetRefPartialEq.TheImpl as target_impl
use Rattle.bundle_link_targets.specs.Taken.{HoldNames, names_for}
use Rattle.bundle_link_targets.proofs.TakenLemmas.{names-none, names-step, names-nothing}
use Rattle.bundle_link_targets.proofs.taken.names_by.Goals as goal

pub loop-target-init : goal.loop-target-init
loop-target-init c = λ giver. names-none giver (names_for c.new-names.result giver) (names-nothing c.new-names.result c.new-names.ensures.empty giver)

pub loop-target-preserved : goal.loop-target-preserved
loop-target-preserved c = λ giver.
    let found = c.in_ok-add_target.ensures giver in
    names-step giver c.as_slice-all.result.now c.loop-target.target-index _ (names_for c.loop-target.names giver) (names_for c.add_target.new.names giver) found.0 c.loop-target-test.true
    (subst (IsDistinct target_impl.ghosts.eq) (sym c.as_slice-all.ensures.keys) c.as_slice-all.ensures.unique)
    found.1 found.2 (c.loop-target.invariant giver)

pub returns : goal.returns
returns c = λ giver.
    subst (λ l. HoldNames giver (map target_of l) (names_for c.loop-target.names giver)) (take_all c.loop-target.target-index c.as_slice-all.result.now c.loop-target-test.false ∙ c.as_slice-all.ensures.keys) (c.loop-target.invariant giver)
