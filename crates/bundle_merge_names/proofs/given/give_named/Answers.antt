-- Each name that is gone over gets a name.
use Rattle.std.proofs.Common.{◌+◌, get_or, refl, sym, subst, arith}
use Rattle.std.proofs.lemmas.Option.{slice_get-get_or}
use Rattle.bundle_link_index.specs.Says.{target_of}
use Rattle.bundle_link_targets.specs.Symbols.{IsTakable}
use Rattle.bundle_scope_denote.proofs.LoopLemmas.{take-whole}
use Rattle.bundle_merge_names.specs.Added.{GivesNames, IsNamedOf}
use Rattle.bundle_merge_names.proofs.LackLemmas.{named-refused}
use Rattle.bundle_merge_names.proofs.ScopeLemmas.{handed-on}
use Rattle.bundle_merge_names.proofs.LabelLemmas.{named-first, named-next, takable-with}
use Rattle.bundle_merge_names.proofs.given.give_named.Goals as goal

pub loop-name-init : goal.loop-name-init
loop-name-init c = λ p list handed takable. named-first p list (target_of c.args.base) _ _ refl

pub loop-name-preserved : goal.loop-name-preserved
loop-name-preserved c = λ p list handed takable. named-next p list (target_of c.args.base) c.args.its.now c.loop-name.name-index (c.loop-name.name-index + 1) (get_or c.args.its.now c.loop-name.name-index _) (target_of c.taking.result) c.args.names.now c.loop-name.names c.give_target.new.names (slice_get-get_or c.args.its.now c.loop-name.name-index _ c.loop-name-test.true) c.taking.ensures (omega arith) (c.loop-name.invariant p list handed takable) (c.in_ok-give_target.ensures.given p list handed (subst (IsTakable p) (sym c.taking.ensures) (takable-with p (target_of c.args.base) _ takable)))

pub returns-clause-given : goal.returns-clause-given
returns-clause-given c = λ p list handed takable. subst (λ l. GivesNames p list (IsNamedOf (target_of c.args.base) l) c.args.names.now c.loop-name.names) (take-whole c.args.its.now c.loop-name.name-index c.loop-name-test.false) (c.loop-name.invariant p list handed takable)

pub returns-in_err-give_target-clause-refused : goal.returns-in_err-give_target-clause-refused
returns-in_err-give_target-clause-refused c = handed-on _ _ _ c.from_residual.ensures.1 (λ p list handed takable. named-refused p list (target_of c.args.base) c.args.its.now c.loop-name.name-index (get_or c.args.its.now c.loop-name.name-index _) (target_of c.taking.result) c.args.names.now c.loop-name.names c.in_err-give_target.field-0.0 (slice_get-get_or c.args.its.now c.loop-name.name-index _ c.loop-name-test.true) c.taking.ensures (c.loop-name.invariant p list handed takable) c.in_err-give_target.ensures.refused)
