use Rattle.std.proofs.Common.{◌≡◌, length}
use Rattle.bundle_order_sort.specs.Numbers.{IsOut}
use Rattle.bundle_order_sort.proofs.SiftLemmas.{Sifted}
use Rattle.bundle_order_sort.proofs.stack.topmost.Given as goal

abbrev pub invariant-loop-done : goal.invariant-loop-done
invariant-loop-done l = record {
  len : length l.met.items ≡ length l.progress;
  sifted : Sifted (λ t. IsOut l.progress t → ⊥) l.stack l.done l.met.items l.kept.items;
}
