use Rattle.std.proofs.Common.{◌∙◌, sym}
use Rattle.bundle_json_form.proofs.Growth.{as_bool-plain}
use Rattle.bundle_json_form.proofs.seen.as_bool.Goals as goal

pub returns : goal.returns
returns c = c.as_bool.ensures ∙ sym (as_bool-plain _)
