use Rattle.std.proofs.Common.{refl}
use Rattle.bundle_json_form.specs.Plain.{seen}
use Rattle.bundle_json_document.proofs.Turns.{with_lists}
use Rattle.bundle_json_document.proofs.stream.DocumentParts.read_lists.Goals as goal

pub returns-clause-ok : goal.returns-clause-ok
returns-clause-ok c =
    let d = seen c.in_ok-value.value in
    (d, c.in_ok-value.ensures.ok, λ ms are. with_lists d ms _ _ are refl refl refl (rw c.replace.ensures.after c.in_ok-lists.ensures.ok))
