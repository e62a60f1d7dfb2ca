use Rattle.std.proofs.Common.{None, append-nil, sym, subst}
use Rattle.std.proofs.lemmas.Result.{on_ok_weaker}
use Rattle.bundle_link_index.specs.Says.{target_of}
use Rattle.bundle_link_targets.specs.Taken.{IsNameFrom, names_for}
use Rattle.bundle_link_targets.proofs.TakenLemmas.{declared-none, namespace-none}
use Rattle.bundle_link_targets.proofs.taken.add_target.Goals as goal

pub returns-in-External : goal.returns-in-External
returns-in-External c = on_ok_weaker c.add_taken.result
    (λ put other. let its = put other in (its.0, subst (λ t. IsNameFrom other (target_of t) its.0) (sym c.in-External.is) its.1, its.2))
    c.add_taken.ensures

pub returns-in-CommonJs : goal.returns-in-CommonJs
returns-in-CommonJs c = on_ok_weaker c.add_taken-in-CommonJs.result
    (λ put other. let its = put other in (its.0, subst (λ t. IsNameFrom other (target_of t) its.0) (sym c.in-CommonJs.is) its.1, its.2))
    c.add_taken-in-CommonJs.ensures

pub returns-in-Declared : goal.returns-in-Declared
returns-in-Declared c = λ other. (
  None,
  subst (λ t. IsNameFrom other (target_of t) None) (sym c.in-Declared.is) (declared-none other _ _),
  sym (append-nil (names_for c.args.names.now other)),
)

pub returns-in-Namespace : goal.returns-in-Namespace
returns-in-Namespace c = λ other. (
  None,
  subst (λ t. IsNameFrom other (target_of t) None) (sym c.in-Namespace.is) (namespace-none other _),
  sym (append-nil (names_for c.args.names.now other)),
)
