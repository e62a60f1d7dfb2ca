use Rattle.std.proofs.Common.{map, take}
use Rattle.gutsirava_views.specs.Metafile.{export_element}
use Rattle.gutsirava_views.specs.Writing.{AddsItems}
use Rattle.gutsirava_views.proofs.metafile.put_exports.Given as goal

abbrev pub invariant-loop-name : goal.invariant-loop-name
invariant-loop-name l =
    AddsItems 4 (map export_element (take l.name-index l.exports)) l.initial.json l.json
