use Rattle.std.proofs.Common.{map, take}
use Rattle.gutsirava_views.specs.Metafile.{import_object}
use Rattle.gutsirava_views.specs.Writing.{AddsItems}
use Rattle.gutsirava_views.proofs.metafile.put_imports.Given as goal

abbrev pub invariant-loop-import : goal.invariant-loop-import
invariant-loop-import l =
    AddsItems 4 (map (import_object l.overview l.has_original) (take l.import-index l.imports)) l.initial.json l.json
