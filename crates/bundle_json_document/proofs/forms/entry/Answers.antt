use Rattle.std.proofs.Common.{arith}
use Rattle.bundle_json_form.specs.Plain.{seen}
use Rattle.bundle_json_document.proofs.Turns.{not_pair}
use Rattle.bundle_json_document.proofs.forms.entry.Goals as goal

pub returns-in_default-clause-refused : goal.returns-in_default-clause-refused
returns-in_default-clause-refused c = λ is_form.
    let items = c.in_ok-items_in in
    not_pair (seen c.args.value.now) items.field-0.now items.ensures.ok (λ two. grind (arith, two))
