-- A name without a context is found at its own number.
use Rattle.bundle_scope_denote.proofs.NameLemmas.{finds-itself}
use Rattle.bundle_scope_denote.proofs.homes.alone_of.Goals as goal

pub returns-in-None : goal.returns-in-None
returns-in-None c = λ at. finds-itself c.args.names.now.keys c.args.name c.args.number c.in-None.is at

pub returns-in-Some : goal.returns-in-Some
returns-in-Some c = λ at. c.without_context.ensures
