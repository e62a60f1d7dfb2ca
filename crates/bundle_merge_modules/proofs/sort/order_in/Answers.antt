use Rattle.std.proofs.Common.{sym, ◌∙◌}
use Rattle.std.proofs.lemmas.Bool.{false≢true}
use Rattle.bundle_merge_modules.proofs.sort.order_in.Goals as goal

pub returns-in_ok-order : goal.returns-in_ok-order
returns-in_ok-order c = λ items modules same joined owned.
    let by = c.in_ok-order.ensures items modules same joined (c.deref.ensures.value ∙ owned) in
    record { whole = by.whole; lone = λ e. absurd (false≢true (sym e ∙ c.if-block.true)); cycle = λ e. by }
