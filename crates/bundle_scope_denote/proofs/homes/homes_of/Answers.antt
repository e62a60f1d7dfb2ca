-- The parameters tell the homes.
use Rattle.bundle_scope_denote.proofs.homes.homes_of.Goals as goal

pub returns : goal.returns
returns c = record { parameters = c.in_ok-parameters.parameters.keys; tells = c.in_ok-parameters.ensures; own = c.in_ok-homes.ensures }
