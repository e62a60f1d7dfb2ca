-- The bundles so far are finished of those that were passed.
use Rattle.bundler_call.proofs.Sources.{AreFinishedSoFar}
use Rattle.bundler_call.proofs.bundler.finished_bundles.Given as goal

abbrev pub invariant-loop-bundle : goal.invariant-loop-bundle
invariant-loop-bundle l =
    AreFinishedSoFar l.config l.fn.merged.items l.bundle-iterator.rest.items l.bundles.items
