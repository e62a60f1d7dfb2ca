-- It is told by a record.
use Rattle.bundle_merge_names.proofs.body.own_of.Goals as goal

pub returns : goal.returns
returns c = record { its = c.own_name.ensures }
