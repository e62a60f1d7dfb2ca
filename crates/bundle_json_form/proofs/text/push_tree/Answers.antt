use Rattle.bundle_json_form.proofs.Growth.{on_ok}
use Rattle.bundle_json_form.proofs.Pieces.{form_is}
use Rattle.bundle_json_form.proofs.text.push_tree.Goals as goal

pub returns : goal.returns
returns c = on_ok c.push_first.result (form_is _ _ _) c.push_first.ensures
