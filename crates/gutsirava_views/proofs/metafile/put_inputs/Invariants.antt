use Rattle.std.proofs.Common.{map, take}
use Rattle.gutsirava_views.specs.Metafile.{input_member}
use Rattle.gutsirava_views.specs.Writing.{AddsItems}
use Rattle.gutsirava_views.proofs.metafile.put_inputs.Given as goal

abbrev pub invariant-loop-input : goal.invariant-loop-input
invariant-loop-input l =
    AddsItems 2 (map (input_member l.overview) (take l.input-index l.input-items)) l.initial.json l.json
