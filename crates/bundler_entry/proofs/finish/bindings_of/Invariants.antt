-- The bindings so far.
use Rattle.std.proofs.Common.{◌≡◌, map, take}
use Rattle.bundler_entry.proofs.finish.bindings_of.Given as goal

abbrev pub invariant-loop-its : goal.invariant-loop-its
invariant-loop-its l = l.bindings.items ≡ map (λ denoted. denoted.binding) (take l.its-index l.denoted)
