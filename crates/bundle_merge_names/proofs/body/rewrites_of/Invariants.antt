-- The names that were gone over have their steps.
use Rattle.bundle_merge_names.proofs.ScopeLemmas.{IsWalked}
use Rattle.bundle_merge_names.proofs.body.rewrites_of.Given as goal

abbrev pub invariant-loop-occurrence : goal.invariant-loop-occurrence
invariant-loop-occurrence l =
    IsWalked l.part l.which l.linking l.names l.rewrites.items l.uses l.calls l.occurrence-index
