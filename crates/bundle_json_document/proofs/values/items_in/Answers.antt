use Rattle.std.proofs.Common.{ap, option_map, sym, ◌∙◌}
use Rattle.bundle_json_form.specs.Plain.{items_seen, seen}
use Rattle.bundle_json_document.proofs.Maps.{array_found}
use Rattle.bundle_json_document.proofs.values.items_in.Goals as goal

pub returns-in-Some-clause-ok : goal.returns-in-Some-clause-ok
returns-in-Some-clause-ok c = array_found (seen c.args.value.now) c.in-Some.items.now (sym (ap (option_map (λ list. items_seen list.now)) c.in-Some.is) ∙ c.items.ensures)
