-- What is meant is judged, and the index is as it was.
use Rattle.std.proofs.Common.{sym, ◌∙◌, subst}
use Rattle.bundle_link_index.specs.Outside.{IsIndexOf}
use Rattle.bundle_link_targets.proofs.linking.LinkFound.new.Goals as goal

pub returns-clause-meant : goal.returns-clause-meant
returns-clause-meant c = c.in_ok-meant.ensures.right

pub returns-clause-judged : goal.returns-clause-judged
returns-clause-judged c = λ p is kinds are.
    c.in_ok-link_fault.ensures.right p kinds (subst (IsIndexOf p) (sym c.in_ok-meant.ensures.same) is) (c.in_ok-meant.ensures.right p is kinds.modules are)

pub returns-clause-meanings : goal.returns-clause-meanings
returns-clause-meanings c = c.in_ok-meant.ensures.meanings

pub returns-clause-linked : goal.returns-clause-linked
returns-clause-linked c = c.in_ok-meant.ensures.linked

pub returns-clause-outside : goal.returns-clause-outside
returns-clause-outside c = λ p is kinds.
    c.in_ok-outside.ensures p (subst (IsIndexOf p) (sym (c.in_ok-link_fault.ensures.same ∙ c.in_ok-meant.ensures.same)) is) kinds (λ are. c.in_ok-meant.ensures.right p is kinds are)
