use Rattle.std.proofs.Common.{◌≡◌, ℕ, ◌<◌, None, length, get_or, take}
use Rattle.std.specs.List.{find}
use Rattle.bundle_order.specs.Providing.{is_of}
use Rattle.bundle_order.proofs.providers.firsts_of.Given as goal

abbrev pub invariant-loop-one : goal.invariant-loop-one
invariant-loop-one l = record {
  len : length l.firsts.items ≡ l.count;
  each : (b : ℕ) → b < l.count → get_or l.firsts.items b None ≡ find (is_of b) (take l.one-index l.seen);
}
