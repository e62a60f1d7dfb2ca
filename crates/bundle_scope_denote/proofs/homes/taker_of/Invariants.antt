-- What is left to search is what is found.
use Rattle.std.proofs.Common.{◌≡◌, ◌-◌, find, map, length}
use Rattle.bundle_scope_denote.specs.Numbers.{numbered_scope}
use Rattle.bundle_scope_denote.specs.Chains.{scopes_outwards, nearest_at, passes}
use Rattle.bundle_scope_denote.specs.Kinds.{takes_by}
use Rattle.bundle_scope_denote.proofs.homes.taker_of.Given as goal

abbrev pub invariant-loop : goal.invariant-loop
invariant-loop l = find (passes (takes_by l.way) (map numbered_scope l.scopes)) (scopes_outwards (map numbered_scope l.scopes) (length (map numbered_scope l.scopes) - l.counter) l.at) ≡ nearest_at (map numbered_scope l.scopes) (passes (takes_by l.way) (map numbered_scope l.scopes)) l.from
