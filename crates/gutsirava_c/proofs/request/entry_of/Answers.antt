use Rattle.std.proofs.Common.{arith}
use Rattle.json.specs.Value.{value_view}
use Rattle.gutsirava_c.proofs.Refused.{not_pair}
use Rattle.gutsirava_c.proofs.request.entry_of.Goals as goal

pub returns-in_default-clause-refused : goal.returns-in_default-clause-refused
returns-in_default-clause-refused c = λ form.
    let items = c.in_ok-items_of in
    not_pair (value_view c.args.pair.now) items.field-0.now items.ensures.are (λ two. grind (arith, two))
