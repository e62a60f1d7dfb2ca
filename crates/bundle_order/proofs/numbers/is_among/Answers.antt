use Rattle.std.proofs.Common.{sym, ◌∙◌}
use Rattle.bundle_order.proofs.ProvideLemmas.{among}
use Rattle.bundle_order.proofs.numbers.is_among.Goals as goal

pub returns : goal.returns
returns c =
    let found = among c.args.numbers.now c.args.number c.binary_search.result c.requires c.binary_search.ensures.position in
    (λ t. found.0 (sym c.is_ok.ensures.value ∙ t), λ h. c.is_ok.ensures.value ∙ found.1 h)
