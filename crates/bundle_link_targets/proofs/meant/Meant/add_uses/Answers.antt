use Rattle.bundle_link_targets.proofs.meant.Meant.add_uses.Goals as goal

pub returns-clause-right : goal.returns-clause-right
returns-clause-right c = λ p is are table. c.add_uses_by.ensures.right p is are table c.in_ok-locals.ensures

pub returns-clause-meanings : goal.returns-clause-meanings
returns-clause-meanings c = λ p is are table within. c.add_uses_by.ensures.meanings p is are table c.in_ok-locals.ensures within
