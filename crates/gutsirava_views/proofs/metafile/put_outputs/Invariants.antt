use Rattle.std.proofs.Common.{map, take}
use Rattle.gutsirava_views.specs.Metafile.{output_member}
use Rattle.gutsirava_views.specs.Writing.{AddsItems}
use Rattle.gutsirava_views.proofs.metafile.put_outputs.Given as goal

abbrev pub invariant-loop-output : goal.invariant-loop-output
invariant-loop-output l =
    AddsItems 2 (map (output_member l.overview) (take l.output-index l.output-items)) l.initial.json l.json
