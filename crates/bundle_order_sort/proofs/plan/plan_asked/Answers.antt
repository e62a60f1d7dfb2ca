-- Either plan is the one that is asked for.
use Rattle.std.proofs.Common.{sym, ◌∙◌}
use Rattle.std.proofs.lemmas.Bool.{false≢true}
use Rattle.std.proofs.lemmas.Result.{IfOk-weaker}
use Rattle.bundle_order_sort.proofs.plan.plan_asked.Goals as goal

pub returns-then-in_standard_order : goal.returns-then-in_standard_order
returns-then-in_standard_order c =
    IfOk-weaker c.plan_of_each.result _ _
    (λ plan each entry order. record {
      by_requests = λ needs. absurd (false≢true (sym needs ∙ c.if-in_standard_order.true));
      of_each = λ asked. each;
    })
    c.plan_of_each.ensures

pub returns-else-in_standard_order : goal.returns-else-in_standard_order
returns-else-in_standard_order c =
    IfOk-weaker c.plan_on.result _ _
    (λ plan its entry order. record {
      by_requests = λ needs. its entry order;
      of_each = λ asked. absurd (false≢true (sym c.if-in_standard_order.false ∙ asked));
    })
    c.plan_on.ensures
