-- The keys of the scopes gone over were added.
use Rattle.std.proofs.Common.{◌≡◌, ◌||◌, take}
use Rattle.std.specs.List.{list_any}
use Rattle.bundle_scope_denote.specs.Bound.{ScopeKey, same_key}
use Rattle.bundle_scope_denote.specs.Barred.{is_key_in}
use Rattle.bundle_scope_denote.proofs.doubled.put_keys.Given as goal

abbrev pub invariant-loop-scope : goal.invariant-loop-scope
invariant-loop-scope l = (other : ScopeKey) → list_any (same_key other) l.keys.keys ≡ (list_any (same_key other) l.initial.keys.keys || is_key_in other l.name (take l.scope-index l.scopes))
