use Rattle.std.proofs.Common.{◌≡◌, ℕ, length, get_or}
use Rattle.bundle_order.specs.Told.{no_binding_told}
use Rattle.bundle_order.proofs.told.nothing_told.Given as goal

abbrev pub invariant-loop : goal.invariant-loop
invariant-loop l = record {
  len : length l.told.items ≡ l.counter;
  each : (p : ℕ) → get_or l.told.items p no_binding_told ≡ no_binding_told;
}
