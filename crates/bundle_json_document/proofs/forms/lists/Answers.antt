use Rattle.std.proofs.Common.{IfErr, sym, subst}
use Rattle.bundle_json_document.specs.Document.{AreLists, AreProperties, IsMap}
use Rattle.bundle_json_document.specs.Error.{NoneIs, RefusesFor}
use Rattle.bundle_json_document.specs.Seen.{value_found}
use Rattle.bundle_json_document.proofs.forms.lists.Goals as goal

pub returns-in_ok-members-in-Some-clause-refused : goal.returns-in_ok-members-in-Some-clause-refused
returns-in_ok-members-in-Some-clause-refused c =
    subst (λ value. IfErr c.lists_in.result (RefusesFor (NoneIs (AreLists (value_found value))))) (sym c.in-Some.is)
    (subst (λ d. IfErr c.lists_in.result (RefusesFor (NoneIs (λ lists. IsMap AreProperties lists d))))
    (sym c.in_ok-members-in-Some.ensures.ok) c.lists_in.ensures.refused)
