-- The count is above the numbers that were passed, and not above what is above all.
use Rattle.std.proofs.Common.{drop}
use Rattle.bundler_entry.proofs.LinkedLemmas.{IsAboveSoFar, IsLeastSoFar}
use Rattle.bundler_entry.proofs.source.count_of_files.Given as goal

abbrev pub invariant-loop-id : goal.invariant-loop-id
invariant-loop-id l =
    IsAboveSoFar l.files (drop l.id-index l.files) l.count
    × IsLeastSoFar l.files (drop l.id-index l.files) l.count
