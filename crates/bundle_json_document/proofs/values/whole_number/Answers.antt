use Rattle.json.specs.Value.{value_view}
use Rattle.std.proofs.Common.{ap, option_map, sym, ◌∙◌}
use Rattle.bundle_json_document.proofs.Numbers.{no_number_found, number_found}
use Rattle.bundle_json_document.proofs.values.whole_number.Goals as goal

pub returns-in-Some : goal.returns-in-Some
returns-in-Some c =
    number_found (value_view c.args.value.now) c.in-Some.digits.now c.number_in.result
    (sym (ap (option_map (λ s. s.now)) c.in-Some.is) ∙ c.as_number.ensures) c.number_in.ensures

pub returns-in-None : goal.returns-in-None
returns-in-None c =
    no_number_found (value_view c.args.value.now)
    (sym (ap (option_map (λ s. s.now)) c.in-None.is) ∙ c.as_number.ensures)
