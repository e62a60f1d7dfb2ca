-- No scope gone over has the name.
use Rattle.std.proofs.Common.{◌≡◌, false, take}
use Rattle.bundle_scope_denote.specs.Barred.{has_any}
use Rattle.bundle_scope_denote.proofs.doubled.is_taken.Given as goal

abbrev pub invariant-loop-scope : goal.invariant-loop-scope
invariant-loop-scope l = has_any l.taken.keys l.name (take l.scope-index l.scopes) ≡ false
