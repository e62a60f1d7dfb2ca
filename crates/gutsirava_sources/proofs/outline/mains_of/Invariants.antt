-- The places so far ascend, and lie before this one.
use Rattle.std.proofs.Common.{ℕ, ◌<◌, ◌≤◌, length, get_or}
use Rattle.std.specs.List.Sorted.{IsNonDecreasing}
use Rattle.gutsirava_sources.proofs.outline.mains_of.Given as goal

abbrev pub invariant-loop-at : goal.invariant-loop-at
invariant-loop-at l =
    IsNonDecreasing l.places.items
    × ((k d : ℕ) → k < length l.places.items → get_or l.places.items k d ≤ l.at)
