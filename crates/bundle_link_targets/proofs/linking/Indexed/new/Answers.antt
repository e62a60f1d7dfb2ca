-- The index is as it was made.
use Rattle.std.proofs.Common.{sym, subst}
use Rattle.bundle_link_index.specs.Outside.{IsIndexOf}
use Rattle.bundle_link_targets.proofs.linking.Indexed.new.Goals as goal

pub returns-clause-index : goal.returns-clause-index
returns-clause-index c = λ p kinds. subst (IsIndexOf p) (sym c.in_ok-found.ensures.same) (c.in_ok-index.ensures p kinds)

pub returns-clause-meant : goal.returns-clause-meant
returns-clause-meant c = λ p kinds. c.in_ok-found.ensures.meant p (c.in_ok-index.ensures p kinds) kinds

pub returns-clause-judged : goal.returns-clause-judged
returns-clause-judged c = λ p kinds. c.in_ok-found.ensures.judged p (c.in_ok-index.ensures p kinds.modules) kinds

pub returns-clause-meanings : goal.returns-clause-meanings
returns-clause-meanings c = λ p kinds. c.in_ok-found.ensures.meanings p (c.in_ok-index.ensures p kinds) kinds

pub returns-clause-linked : goal.returns-clause-linked
returns-clause-linked c = λ p kinds. c.in_ok-found.ensures.linked p (c.in_ok-index.ensures p kinds) kinds

pub returns-clause-outside : goal.returns-clause-outside
returns-clause-outside c = λ p kinds. c.in_ok-found.ensures.outside p (c.in_ok-index.ensures p kinds) kinds
