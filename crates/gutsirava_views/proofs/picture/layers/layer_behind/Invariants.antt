use Rattle.std.proofs.Common.{◌<◌, All, length, get_or, take}
use Rattle.gutsirava_views.proofs.picture.layers.layer_behind.Given as goal

abbrev pub invariant-loop-block : goal.invariant-loop-block
invariant-loop-block l =
    All (λ block. block < length l.layers → get_or l.layers block 0 < l.behind) (take l.block-index l.blocks)
