-- Its object is meant, and it stars an external, or not.
use Rattle.std.proofs.Common.{◌∙◌, sym}
use Rattle.std.proofs.lemmas.Bool.{false≢true}
use Rattle.bundle_link_targets.proofs.HandedLemmas.{object-told}
use Rattle.bundle_link_targets.proofs.StageLemmas.{object_closed, object_first, object_unmeant}
use Rattle.bundle_link_targets.proofs.faults.object_fault.Goals as goal

pub returns-then-not-contains-clause-right : goal.returns-then-not-contains-clause-right
returns-then-not-contains-clause-right c = λ p w held.
    object_unmeant p c.args.which (λ meant. false≢true (sym c.if-not-contains.true ∙ (object-told p c.args.meant.now held c.args.which c.contains.result c.contains.ensures).1 meant))

pub returns-then-is_starred-clause-right : goal.returns-then-is_starred-clause-right
returns-then-is_starred-clause-right c = λ p w held.
    object_first p c.args.which _ ((object-told p c.args.meant.now held c.args.which c.contains.result c.contains.ensures).0 c.if-not-contains.false) ((c.in_ok-is_starred.ensures.right p w).0 c.if-is_starred.true)

pub returns-clause-right : goal.returns-clause-right
returns-clause-right c = λ p w held.
    object_closed p c.args.which (λ starred. false≢true (sym c.if-is_starred.false ∙ (c.in_ok-is_starred.ensures.right p w).1 starred))
