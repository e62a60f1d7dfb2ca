use Rattle.std.proofs.Common.{ap, arith, length}
use Rattle.std.proofs.lemmas.List.{length_push}
use Rattle.gutsirava_views.proofs.LayerLemmas.{columns_behind, columns_within}
use Rattle.gutsirava_views.proofs.picture.layers.layers_of.Goals as goal

pub loop-block-preserved : goal.loop-block-preserved
loop-block-preserved c =
    let layers = c.loop-block.layers.items in
    let layer = c.in_ok-layer.layer in
    record {
      each = omega (arith, c.loop-block.invariant.each, ap length c.in_ok-push.ensures.items, length_push layers layer);
      behind = columns_behind c.args.askers.now layers c.push.new.self.items c.as_slice.result.now c.as_slice-in-loop-block.result.now
          c.loop-block.block layer c.layer_behind-least.result c.index-askers-block.result
          c.loop-block.invariant.each c.loop-block-test.true c.index-askers-block.is c.as_slice.ensures.value c.as_slice-in-loop-block.ensures.value
          c.loop-block.invariant.behind c.layer_behind-least.ensures c.in_ok-layer.ensures.behind c.in_ok-push.ensures.items;
      within = columns_within layers c.push.new.self.items layer _ _ c.loop-block.invariant.within c.in_ok-layer.ensures.grows
          c.in_ok-layer.ensures.within c.in_ok-push.ensures.items;
    }
