use Rattle.std.proofs.Common.{ap, sym, subst, option_map}
use Rattle.bundle_link_index.specs.Says.{answer_says, target_of}
use Rattle.bundle_link_targets.specs.Names.{IsLinkedTo}
use Rattle.bundle_link_targets.proofs.HandedLemmas.{told-linked}
use Rattle.bundle_link_targets.proofs.ListLemmas.{next-of}
use Rattle.bundle_link_targets.proofs.meant.read_on.Goals as goal

pub returns-in_ok-answer-in-Namespace-clause-right : goal.returns-in_ok-answer-in-Namespace-clause-right
returns-in_ok-answer-in-Namespace-clause-right c = λ p is.
    let d = c.in-Namespace.which in
    let y = c.args.name.now in
    next-of p (target_of c.args.target) d y (option_map target_of c.linked.result) (ap target_of c.in-Namespace.is)
    (subst (IsLinkedTo p d y) (sym c.linked.ensures) (told-linked p d y (answer_says c.in_ok-answer-in-Namespace.answer) (c.in_ok-answer-in-Namespace.ensures.right p is)))
