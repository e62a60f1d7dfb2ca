use Rattle.bundle_order.proofs.spot.ItemSpot.inside.Goals as goal

pub returns-clause-assign : goal.returns-clause-assign
returns-clause-assign c = c.is_in_assign_in.ensures

pub returns-clause-empty : goal.returns-clause-empty
returns-clause-empty c = λ item outer e. c.declarator_in.ensures item c.args.field outer e
