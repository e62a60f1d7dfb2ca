use Rattle.std.proofs.Common.{slice_index, refl}
use Rattle.gutsirava_views.proofs.MetafileLemmas.{share_next}
use Rattle.gutsirava_views.proofs.metafile.put_each.Goals as goal

pub loop-input-preserved : goal.loop-input-preserved
loop-input-preserved c =
    share_next c.args.overview.now (slice_index c.args.shares.now) c.loop-input.input _ _ _ _ refl c.loop-input.invariant
    c.in_ok-put_share.ensures
