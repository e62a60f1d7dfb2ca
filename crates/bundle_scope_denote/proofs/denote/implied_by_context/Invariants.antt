-- The keys gone over that are implied.
use Rattle.std.proofs.Common.{◌≡◌, ◌&&◌, map, take}
use Rattle.std.specs.List.{list_any}
use Rattle.bundle_scope_denote.specs.Numbers.{name_as}
use Rattle.bundle_scope_denote.specs.Bound.{ScopeKey, same_key}
use Rattle.bundle_scope_denote.specs.Ready.{is_implied_key}
use Rattle.bundle_scope_denote.proofs.denote.implied_by_context.Given as goal

abbrev pub invariant-loop-key : goal.invariant-loop-key
invariant-loop-key l = (key : ScopeKey) → list_any (same_key key) l.implied.keys ≡ list_any (λ (x : ScopeKey). is_implied_key (map name_as l.names.keys) l.keys.keys x && same_key key x) (take l.key-index l.keys.keys)
