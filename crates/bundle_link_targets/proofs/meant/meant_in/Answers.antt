use Rattle.bundle_link_targets.specs.Found.{targets_in}
use Rattle.bundle_link_targets.proofs.UseLemmas.{holds-linked}
use Rattle.bundle_link_targets.proofs.HandedLemmas.{holds-meant}
use Rattle.bundle_link_targets.proofs.meant.meant_in.Goals as goal

pub returns-clause-right : goal.returns-clause-right
returns-clause-right c = λ p is ready are. holds-meant p (targets_in c.find.new.self.targets) are (c.in_ok-find.ensures.right p is ready c.in_ok-meant.ensures.targets)

pub returns-clause-meanings : goal.returns-clause-meanings
returns-clause-meanings c = λ p is ready. c.in_ok-find.ensures.meanings p is ready c.in_ok-meant.ensures.meanings

pub returns-clause-linked : goal.returns-clause-linked
returns-clause-linked c = λ p is ready are.
    let targets = targets_in c.find.new.self.targets in
    holds-linked p targets c.find.new.self.linked.items (holds-meant p targets are (c.in_ok-find.ensures.right p is ready c.in_ok-meant.ensures.targets)) (c.in_ok-find.ensures.linked p is ready c.in_ok-meant.ensures.linked)
