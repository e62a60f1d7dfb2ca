use Rattle.std.proofs.Common.{◌∙◌, sym, ap, option_map}
use Rattle.json.specs.Find as find
use Rattle.json.specs.Value.{members_view, value_view}
use Rattle.json.proofs.Trees.{view-Object}
use Rattle.bundle_json_form.specs.Plain.{plain}
use Rattle.bundle_json_form.proofs.Growth.{get-plain, seen_of}
use Rattle.bundle_json_form.proofs.seen.get.Goals as goal

pub returns-in-Object : goal.returns-in-Object
returns-in-Object c =
    let key = c.args.key.now in
    seen_of c.last_under.result
    ∙ ap (λ o. option_map plain o)
    (c.last_under.ensures ∙ ap (λ ms. find.get_member key (members_view ms)) c.as_slice.ensures.value
    ∙ ap (λ j. find.get key j) (sym (ap value_view c.in-Object.is ∙ view-Object c.in-Object.members)))
    ∙ sym (get-plain key (value_view c.args.value.now))
