-- A number that is none of a scope's has nothing around it.
use Rattle.std.proofs.Common.{sym, ap, map}
use Rattle.std.specs.Prelude.{option_and_then}
use Rattle.bundle_scope_denote.specs.Numbers.{NumberedScope, numbered_scope}
use Rattle.bundle_scope_denote.proofs.LoopLemmas.{outer-there}
use Rattle.bundle_scope_denote.proofs.homes.outer_at.Goals as goal

pub returns-in-None : goal.returns-in-None
returns-in-None c = ap (option_and_then (λ (x : NumberedScope). x.outer)) c.in-None.ensures

pub returns-in-Some : goal.returns-in-Some
returns-in-Some c = sym (outer-there (map numbered_scope c.args.scopes.now) c.args.number (numbered_scope c.in-Some.scope) c.in-Some.ensures)
