use Rattle.std.proofs.Common.{ap, sym, ◌∙◌}
use Rattle.json.specs.Value.{members_view}
use Rattle.serde_json.specs.Data.{object, no_members}
use Rattle.bundle_json_form.specs.Plain.{plain_members, seen}
use Rattle.bundle_json_document.proofs.Maps.{seen_object}
use Rattle.bundle_json_document.proofs.Fronts.{if_ok_weaker}
use Rattle.bundle_json_document.proofs.values.members_in.Goals as goal

pub returns-in-Object-clause-ok : goal.returns-in-Object-clause-ok
returns-in-Object-clause-ok c =
    let whole = ap seen c.in-Object.is ∙ seen_object c.in-Object.all in
    if_ok_weaker _ _ c.last_of_each.result (λ members is. whole ∙ ap (λ them. object (plain_members (members_view them) no_members)) (sym c.as_slice.ensures.value) ∙ ap object (sym is)) c.last_of_each.ensures.ok
