use Rattle.std.proofs.Common.{◌∙◌, sym}
use Rattle.bundle_json_form.proofs.Growth.{as_str-plain}
use Rattle.bundle_json_form.proofs.seen.as_str.Goals as goal

pub returns : goal.returns
returns c = c.as_str.ensures ∙ sym (as_str-plain _)
