use Rattle.std.proofs.Common.{◌≡◌, ◌+◌, Contains, map, refl, sym, subst, take}
use Rattle.std.proofs.lemmas.List.{take_all}
use Rattle.bundle_rules.specs.Linking as l
use Rattle.bundle_link_index.specs.Given.{AddsMissing}
use Rattle.bundle_link_targets.specs.Found.{target_in, targets_in}
use Rattle.bundle_link_targets.proofs.TakenLemmas.{AnyOf, Adds-step, Adds-same, map-more}
use Rattle.bundle_link_targets.proofs.meant.add_targets.Goals as goal

pub loop-pair-preserved : goal.loop-pair-preserved
loop-pair-preserved c =
    let linked = c.args.linked.now in
    let i = c.loop-pair.pair-index in
    Adds-step (λ (x : l.Target) (t : l.Target). t ≡ x) (map target_in (take i linked)) (map target_in (take (i + 1) linked)) _ (targets_in c.args.targets.now) (targets_in c.loop-pair.targets) (targets_in c.add_target.new.targets)
    (map-more target_in linked i _ c.loop-pair-test.true) c.loop-pair.invariant c.in_ok-add_target.ensures

pub returns : goal.returns
returns c =
    let linked = c.args.linked.now in
    let all = subst (λ ls. AddsMissing (targets_in c.args.targets.now) (AnyOf (map target_in ls) (λ (x : l.Target) (t : l.Target). t ≡ x)) (targets_in c.loop-pair.targets)) (take_all c.loop-pair.pair-index linked c.loop-pair-test.false) c.loop-pair.invariant in
    Adds-same (targets_in c.args.targets.now) (targets_in c.loop-pair.targets) (AnyOf (map target_in linked) (λ (x : l.Target) (t : l.Target). t ≡ x)) (Contains (map target_in linked))
    (λ t any. subst (Contains (map target_in linked)) (sym any.2) any.1) (λ t there. (t, there, refl)) all
