use Rattle.std.proofs.Common.{map, take}
use Rattle.std.specs.List.{AllZip}
use Rattle.bundle_json_form.specs.Plain.{seen}
use Rattle.bundle_json_document.specs.Document.{IsText}
use Rattle.bundle_json_document.proofs.settings.texts_in.Given as goal

abbrev pub invariant-loop-value : goal.invariant-loop-value
invariant-loop-value l = AllZip IsText (map seen (take l.value-index l.values)) l.texts.items
