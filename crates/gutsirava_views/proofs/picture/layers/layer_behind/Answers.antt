use Rattle.std.proofs.Common.{◌<◌, ℕ, List, All, length, get_or, subst, arith}
use Rattle.std.proofs.lemmas.List.{take_all}
use Rattle.gutsirava_views.proofs.LayerLemmas.{before_more}
use Rattle.gutsirava_views.proofs.picture.layers.layer_behind.Goals as goal

pub loop-block-preserved : goal.loop-block-preserved
loop-block-preserved c =
    before_more _ _ _ _ _ (omega arith) c.loop-block.invariant c.behind_block-behind.ensures.least c.behind_block-behind.ensures.behind

pub returns : goal.returns
returns c =
    let P : List ℕ → Type 0 = λ it. All (λ block. block < length c.args.layers.now → get_or c.args.layers.now block 0 < c.loop-block.behind) it in
    subst P (take_all c.loop-block.block-index c.args.blocks.now (omega (arith, c.loop-block-test.false))) c.loop-block.invariant
