use Rattle.std.proofs.Common.{IfErr, sym, subst}
use Rattle.bundle_json_document.specs.Document.{IsMap, IsModuleForm}
use Rattle.bundle_json_document.specs.Error.{NoneIs, RefusesFor}
use Rattle.bundle_json_document.proofs.forms.files.Goals as goal

pub returns-clause-refused : goal.returns-clause-refused
returns-clause-refused c =
    subst (λ d. IfErr c.files_in.result (RefusesFor (NoneIs (λ files. IsMap IsModuleForm files d))))
    (sym c.in_ok-members.ensures.ok) c.files_in.ensures.refused
