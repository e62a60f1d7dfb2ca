-- A number that is none of a scope's passes no test.
use Rattle.std.proofs.Common.{sym, ◌∙◌, map}
use Rattle.bundle_scope_denote.specs.Numbers.{numbered_scope}
use Rattle.bundle_scope_denote.specs.Bound.{holds_parameters}
use Rattle.bundle_scope_denote.proofs.LoopLemmas.{passes-missing, passes-there}
use Rattle.bundle_scope_denote.proofs.homes.holds_parameters_at.Goals as goal

pub returns-in-None : goal.returns-in-None
returns-in-None c = sym (passes-missing holds_parameters (map numbered_scope c.args.scopes.now) c.args.number c.in-None.ensures)

pub returns-in-Some : goal.returns-in-Some
returns-in-Some c = c.holds_parameters.ensures c.in-Some.scope.begins ∙ sym (passes-there holds_parameters (map numbered_scope c.args.scopes.now) c.args.number (numbered_scope c.in-Some.scope) c.in-Some.ensures)
