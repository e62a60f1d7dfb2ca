-- No key gone over is of the scope and of an identifier's name with the symbol.
use Rattle.std.proofs.Common.{◌≡◌, false, map, take}
use Rattle.std.specs.List.{list_any}
use Rattle.bundle_scope_denote.specs.Numbers.{name_as}
use Rattle.bundle_scope_denote.specs.Bound.{is_written_key}
use Rattle.bundle_scope_denote.proofs.denote.is_written.Given as goal

abbrev pub invariant-loop-key : goal.invariant-loop-key
invariant-loop-key l = list_any (is_written_key (map name_as l.names.keys) l.scope l.sym) (take l.key-index l.keys.keys) ≡ false
