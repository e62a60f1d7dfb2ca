use Rattle.std.proofs.Common.{slice_index}
use Rattle.gutsirava_views.specs.Metafile.{all_shares}
use Rattle.gutsirava_views.specs.Writing.{AddsItems}
use Rattle.gutsirava_views.proofs.metafile.put_each.Given as goal

abbrev pub invariant-loop-input : goal.invariant-loop-input
invariant-loop-input l =
    AddsItems 4 (all_shares l.overview (slice_index l.shares) l.input) l.initial.json l.json
