use Rattle.std.proofs.Common.{◌≡◌, [], length, ℕ}
use Rattle.bundle_link_targets.specs.Lists.{list_in}
use Rattle.bundle_link_targets.proofs.lists.no_lists.Given as goal

abbrev pub invariant-loop : goal.invariant-loop
invariant-loop g l = record { none : (n : ℕ) → list_in l.lists.items n ≡ []; long : length l.lists.items ≡ l.counter }
