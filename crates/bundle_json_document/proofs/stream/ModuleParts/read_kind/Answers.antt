use Rattle.std.proofs.Common.{refl}
use Rattle.bundle_json_form.specs.Plain.{seen}
use Rattle.bundle_json_document.proofs.Turns.{with_kind}
use Rattle.bundle_json_document.proofs.stream.ModuleParts.read_kind.Goals as goal

pub returns-clause-ok : goal.returns-clause-ok
returns-clause-ok c =
    let d = seen c.in_ok-value.value in
    (d, c.in_ok-value.ensures.ok, λ ms are. with_kind d ms _ _ are refl c.is_text-is_module.ensures)
