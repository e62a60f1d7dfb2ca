-- A node of this name whose scalars are not there is none.
use Rattle.std.proofs.lemmas.Result.{IfErr-weaker}
use Rattle.bundle_json_form.proofs.OfKind.{not_filled}
use Rattle.bundle_json_form.proofs.node.NodeValue.node.Goals as goal

pub returns-clause-refused : goal.returns-clause-refused
returns-clause-refused c =
    IfErr-weaker c.filled.result _ _
    (λ _ none. not_filled _ _ _ _ c.requires c.in_ok-kind.ensures.named none)
    c.filled.ensures.refused
