-- One more text is that of one more bundle, under the name of one more entry; where none of either is left, all have theirs.
use Rattle.std.proofs.Common.{length, ap, arith}
use Rattle.std.proofs.lemmas.Slice.Zip.{Zip-more, either_empty_from_Zip}
use Rattle.gutsirava_bundle.specs.Command.{HasTextOf}
use Rattle.gutsirava_bundle.specs.Linking.{HasNameOf}
use Rattle.gutsirava_bundle.proofs.Loops.{both_passed}
use Rattle.gutsirava_graph.proofs.SoFar.{more_so_far, all_so_far}
use Rattle.gutsirava_bundle.proofs.bundling.texts_of.Goals as goal

pub loop-bundle-preserved : goal.loop-bundle-preserved
loop-bundle-preserved c =
    let (texts, names, count) = c.loop-bundle.invariant in
    let next = Zip-more c.loop-bundle.bundle-iterator c.next.new.self _ _ c.in-Some.is c.next.ensures.steps in (
      more_so_far (HasTextOf c.args.settings.now) c.args.linked.now.bundles.items _ _ c.loop-bundle.outputs.items _ _ _ next.0 c.in_ok-push_text.ensures c.in_ok-output.ensures.text texts,
      more_so_far HasNameOf c.args.roots.now _ _ c.loop-bundle.outputs.items _ _ _ next.1 c.in_ok-push_text.ensures c.in_ok-output.ensures.name names,
      omega (arith, count, ap length next.0, ap length next.1),
    )

pub returns : goal.returns
returns c = λ same.
    let (texts, names, count) = c.loop-bundle.invariant in
    let passed = both_passed c.args.linked.now.bundles.items _ c.args.roots.now _ count same (either_empty_from_Zip c.loop-bundle.bundle-iterator c.next.new.self _ c.in-None.is c.next.ensures.steps) in (
      all_so_far (HasTextOf c.args.settings.now) c.args.linked.now.bundles.items _ c.loop-bundle.outputs.items passed.0 texts,
      all_so_far HasNameOf c.args.roots.now _ c.loop-bundle.outputs.items passed.1 names,
    )
