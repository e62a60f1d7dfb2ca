use Rattle.std.proofs.Common.{◌≡◌, List, ◌++◌}
use Rattle.std.specs.List.{AllZip}
use Rattle.bundle_json_document.specs.Document.{IsModuleForm}
use Rattle.bundle_json_document.proofs.Maps.{Entry, Under}
use Rattle.bundle_json_document.proofs.forms.files_in.Given as goal

abbrev pub invariant-loop-name : goal.invariant-loop-name
invariant-loop-name l = (done : List Entry) × (l.members.entries ≡ done ++ l.name-iterator) × AllZip (Under IsModuleForm) done l.files.entries
