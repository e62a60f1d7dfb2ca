use Rattle.std.proofs.Common.{◌∙◌, sym}
use Rattle.bundle_json_form.proofs.Growth.{is_null-plain}
use Rattle.bundle_json_form.proofs.seen.is_null.Goals as goal

pub returns : goal.returns
returns c = c.is_null.ensures ∙ sym (is_null-plain _)
