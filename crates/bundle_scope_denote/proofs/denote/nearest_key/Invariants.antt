-- What is left to search is what is found.
use Rattle.std.proofs.Common.{◌≡◌, ◌-◌, false, find, map, length}
use Rattle.bundle_scope_denote.specs.Numbers.{numbered_scope}
use Rattle.bundle_scope_denote.specs.Chains.{scopes_outwards, nearest_at}
use Rattle.bundle_scope_denote.specs.Bound.{binds_at}
use Rattle.bundle_scope_denote.proofs.denote.nearest_key.Given as goal

abbrev pub invariant-loop : goal.invariant-loop
invariant-loop l = find (binds_at (map numbered_scope l.scopes) l.keys.keys false l.name) (scopes_outwards (map numbered_scope l.scopes) (length (map numbered_scope l.scopes) - l.counter) l.at) ≡ nearest_at (map numbered_scope l.scopes) (binds_at (map numbered_scope l.scopes) l.keys.keys false l.name) l.from
