-- A name that is added goes last, and one that is there stays.
use Rattle.bundle_scope_denote.proofs.NameLemmas.{keeps_from_insert, number_from_stored, once_from_insert}
use Rattle.bundle_scope_denote.proofs.walk.number_of.Goals as goal

pub returns-clause-keeps : goal.returns-clause-keeps
returns-clause-keeps c = keeps_from_insert c.args.names.now.keys _ c.args.name c.in_ok-number.ensures.keys

pub returns-clause-number : goal.returns-clause-number
returns-clause-number c = let h = c.in_ok-number.ensures.stored in number_from_stored _ c.in_ok-number.number c.args.name h.0 h.1 h.2

pub returns-clause-once : goal.returns-clause-once
returns-clause-once c = once_from_insert c.args.names.now.keys _ c.args.name c.in_ok-number.ensures.keys
