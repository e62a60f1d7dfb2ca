-- The scopes passed so far, and those that are passed further out, are all that are passed.
use Rattle.std.proofs.Common.{◌≡◌, ◌-◌, ◌++◌, map, length}
use Rattle.bundle_scope_denote.specs.Numbers.{numbered_scope}
use Rattle.bundle_scope_denote.specs.Chains.{scopes_outwards}
use Rattle.bundle_scope_denote.specs.Barred.{passed_at, passed_of}
use Rattle.bundle_scope_denote.proofs.doubled.passed_by.Given as goal

abbrev pub invariant-loop : goal.invariant-loop
invariant-loop l = l.passed.items ++ passed_of (map numbered_scope l.scopes) l.way (scopes_outwards (map numbered_scope l.scopes) (length (map numbered_scope l.scopes) - l.counter) l.at) ≡ passed_at (map numbered_scope l.scopes) l.way l.from
