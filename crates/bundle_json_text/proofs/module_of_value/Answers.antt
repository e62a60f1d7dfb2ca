use Rattle.std.proofs.Common.{map, ap, sym, ◌∙◌, inr}
use Rattle.bundle_syntax.specs.Item.{item_of}
use Rattle.bundle_json_form.specs.Plain.{seen}
use Rattle.bundle_json_form.proofs.Growth.{handed}
use Rattle.bundle_json_text.proofs.Refusals.{no_list, no_module}
use Rattle.bundle_json_text.proofs.module_of_value.Goals as goal

pub returns-in_err-pieces-clause-refused : goal.returns-in_err-pieces-clause-refused
returns-in_err-pieces-clause-refused c =
    handed _ _ c.from_residual.ensures.1 (no_list c.args.notes.now (seen c.args.value.now) c.requires) c.in_err-pieces.ensures.refused

pub returns-in-Err-Form-clause-refused : goal.returns-in-Err-Form-clause-refused
returns-in-Err-Form-clause-refused c =
    inr (no_module c.args.notes.now (seen c.args.value.now) c.requires (map item_of c.as_slice.result.now)
    (λ other is. c.in_ok-pieces.ensures.only other is ∙ ap (map item_of) (sym c.as_slice.ensures.value))
    (c.in-Err-Form.ensures.refused c.in-Err-Form.field-0-is))
