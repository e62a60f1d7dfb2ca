-- Each binding has its first place among the occurrences gone over.
use Rattle.std.proofs.Common.{◌≡◌, ◌<◌, ℕ, Some, take}
use Rattle.std.specs.Prelude.{slice_get}
use Rattle.bundle_scope_names.specs.Turns.{first_of}
use Rattle.bundle_scope_names.proofs.hygiene.firsts_of.Given as goal

abbrev pub invariant-loop-occurrence : goal.invariant-loop-occurrence
invariant-loop-occurrence l = (number : ℕ) → number < l.count → slice_get l.firsts.items number ≡ Some (first_of (take l.occurrence-index l.occurrences) number)
