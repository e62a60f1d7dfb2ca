-- The texts so far are those of the bundles that were passed, under the names of the entries that were; and as many of both were.
use Rattle.std.proofs.Common.{◌≡◌, ◌+◌, length}
use Rattle.std.specs.Iterator.Adapters.{zip_first, zip_second}
use Rattle.std.specs.Slice.Iter.{iter_rest}
use Rattle.gutsirava_bundle.specs.Command.{HasTextOf}
use Rattle.gutsirava_bundle.specs.Linking.{HasNameOf}
use Rattle.gutsirava_graph.proofs.SoFar.{AreSoFar}
use Rattle.gutsirava_bundle.proofs.bundling.texts_of.Given as goal

abbrev pub invariant-loop-bundle : goal.invariant-loop-bundle
invariant-loop-bundle l =
    AreSoFar (HasTextOf l.settings) l.linked.bundles.items (iter_rest (zip_first l.bundle-iterator)) l.outputs.items
    × AreSoFar HasNameOf l.roots (iter_rest (zip_second l.bundle-iterator)) l.outputs.items
    × (length (iter_rest (zip_first l.bundle-iterator)) + length l.roots ≡ length (iter_rest (zip_second l.bundle-iterator)) + length l.linked.bundles.items)
