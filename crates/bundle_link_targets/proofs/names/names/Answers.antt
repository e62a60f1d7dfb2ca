use Rattle.bundle_link_targets.proofs.names.names.Goals as goal

pub returns-clause-there : goal.returns-clause-there
returns-clause-there c = λ p is are x t linked. c.in_ok-sorted.ensures.there x (c.in_ok-names.ensures p is are x t linked)
