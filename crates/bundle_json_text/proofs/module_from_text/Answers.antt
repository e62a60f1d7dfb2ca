use Rattle.json.specs.Value.{value_view}
use Rattle.bundle_json_form.proofs.Growth.{handed, on_err}
use Rattle.bundle_json_text.proofs.Refusals.{no_json, no_module_read}
use Rattle.bundle_json_text.proofs.module_from_text.Goals as goal

pub returns-in_err-value-clause-refused : goal.returns-in_err-value-clause-refused
returns-in_err-value-clause-refused c = handed _ _ c.from_residual.ensures.1 (no_json c.args.text.now) c.in_err-value.ensures.refused

pub returns-clause-refused : goal.returns-clause-refused
returns-clause-refused c =
    on_err _ (no_module_read c.args.text.now (value_view c.in_ok-value.value) c.in_ok-value.ensures.read) c.module_of_value.ensures.refused
