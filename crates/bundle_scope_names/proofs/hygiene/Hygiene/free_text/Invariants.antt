-- Each number tried makes a text that is taken.
use Rattle.std.proofs.Common.{◌≡◌, ◌<◌, ◌≤◌, ℕ, true}
use Rattle.bundle_rules.specs.Renaming.{numbered}
use Rattle.bundle_scope_names.specs.Marks.{has_taken}
use Rattle.bundle_scope_names.proofs.hygiene.Hygiene.free_text.Given as goal

abbrev pub invariant-loop-tried : goal.invariant-loop-tried
invariant-loop-tried l = (l.self ≡ l.fn.self) × ((k : ℕ) → l.first < k → k ≤ l.tried → has_taken l.fn.self (numbered l.sym k) ≡ true)
