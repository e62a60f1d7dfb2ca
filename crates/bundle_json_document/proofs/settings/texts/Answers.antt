use Rattle.std.proofs.Common.{IfErr, sym, subst}
use Rattle.bundle_json_form.specs.Plain.{seen}
use Rattle.bundle_json_document.specs.Document.{IsTextList, IsText}
use Rattle.bundle_json_document.specs.Error.{NoneIs, RefusesFor}
use Rattle.bundle_json_document.specs.Seen.{value_found}
use Rattle.bundle_json_document.proofs.Turns.{none_listed}
use Rattle.bundle_json_document.proofs.Fronts.{refused_too}
use Rattle.bundle_json_document.proofs.settings.texts.Goals as goal

pub returns-in_ok-items_in-in-Some-clause-refused : goal.returns-in_ok-items_in-in-Some-clause-refused
returns-in_ok-items_in-in-Some-clause-refused c =
    let items = c.in_ok-items_in-in-Some in
    subst (λ value. IfErr c.texts_in.result (RefusesFor (NoneIs (IsTextList (value_found value))))) (sym c.in-Some.is)
    (refused_too c.texts_in.result (none_listed IsText items.field-0.now (seen c.in-Some.value.now) items.ensures.ok)
    c.texts_in.ensures.refused)
