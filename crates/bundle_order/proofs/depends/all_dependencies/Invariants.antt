use Rattle.std.proofs.Common.{◌≡◌, ℕ, ◌<◌, map, length}
use Rattle.bundle_order.specs.Found.{IsFoundAt}
use Rattle.bundle_order.proofs.depends.all_dependencies.Given as goal

abbrev pub invariant-loop-number : goal.invariant-loop-number
invariant-loop-number l = record {
  len : length l.found.items ≡ l.number;
  each : (s : ℕ) → s < l.number → IsFoundAt (map (λ v. v.items) l.providers) (map (λ v. v.items) l.all) (map (λ v. v.items) l.strong) s (map (λ v. v.items) l.found.items);
}
