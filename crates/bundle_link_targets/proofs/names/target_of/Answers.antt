use Rattle.std.proofs.Common.{sym, subst}
use Rattle.bundle_link_index.specs.Says.{answer_says}
use Rattle.bundle_link_targets.specs.Names.{IsLinkedTo}
use Rattle.bundle_link_targets.proofs.HandedLemmas.{told-linked}
use Rattle.bundle_link_targets.proofs.names.target_of.Goals as goal

pub returns-clause-right : goal.returns-clause-right
returns-clause-right c = λ p is. subst (IsLinkedTo p c.args.which c.args.name.now) (sym c.linked.ensures) (told-linked p c.args.which c.args.name.now (answer_says c.in_ok-answer.answer) (c.in_ok-answer.ensures.right p is))
