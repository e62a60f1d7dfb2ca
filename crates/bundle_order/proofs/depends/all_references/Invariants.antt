use Rattle.std.proofs.Common.{◌≡◌, map, length}
use Rattle.bundle_order.specs.Found.{AreReferred}
use Rattle.bundle_order.proofs.depends.all_references.Given as goal

abbrev pub invariant-loop-number : goal.invariant-loop-number
invariant-loop-number l = record {
  len : length l.found.items ≡ l.number;
  each : AreReferred l.number (map (λ v. v.items) l.all) (map (λ v. v.items) l.strong) (map (λ v. v.items) l.found.items);
}
