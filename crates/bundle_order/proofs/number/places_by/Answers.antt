use Rattle.std.proofs.Common.{get_or}
use Rattle.bundle_order.proofs.NumberingLemmas.{contains-at}
use Rattle.bundle_order.proofs.number.places_by.Goals as goal

pub at_number-requires : goal.at_number-requires
at_number-requires c =
    let numbers = c.args.numbers.now in
    let k = c.loop-number.number-index in
    c.requires (get_or numbers k 0) (contains-at numbers k c.loop-number-test.true)
