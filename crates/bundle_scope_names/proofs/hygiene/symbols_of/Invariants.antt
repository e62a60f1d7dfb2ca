-- The symbols so far, and those that are left, are all.
use Rattle.std.proofs.Common.{◌≡◌, ◌++◌, map, drop}
use Rattle.bundle_scope_names.specs.Turns.{symbols_from}
use Rattle.bundle_scope_names.proofs.hygiene.symbols_of.Given as goal

abbrev pub invariant-loop-number : goal.invariant-loop-number
invariant-loop-number l = map (λ sym. sym.now) l.symbols.items ++ symbols_from l.names l.number (drop l.number l.bindings) ≡ symbols_from l.names 0 l.bindings
