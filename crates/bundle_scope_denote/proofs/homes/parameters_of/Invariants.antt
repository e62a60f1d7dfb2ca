-- The parameters among the declarations gone over.
use Rattle.std.proofs.Common.{◌≡◌, map, take}
use Rattle.std.specs.List.{list_any}
use Rattle.bundle_scope_denote.specs.Numbers.{numbered_scope}
use Rattle.bundle_scope_denote.specs.Bound.{ScopeKey, same_key, is_parameter_key}
use Rattle.bundle_scope_denote.specs.Ready.{taken_key}
use Rattle.bundle_scope_denote.proofs.homes.parameters_of.Given as goal

abbrev pub invariant-loop-declaration : goal.invariant-loop-declaration
invariant-loop-declaration l = (key : ScopeKey) → list_any (same_key key) l.parameters.keys ≡ list_any (is_parameter_key (map numbered_scope l.walk.scopes.items) key) (map (taken_key (map numbered_scope l.walk.scopes.items) l.walk.top) (take l.declaration-index l.walk.declarations.items))
