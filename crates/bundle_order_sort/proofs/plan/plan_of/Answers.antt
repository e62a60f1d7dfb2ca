-- The blocks are those of the list that is made.
use Rattle.std.proofs.Common.{nat_eq, subst, sym}
use Rattle.std.specs.List.{IsDistinct}
use Rattle.std.proofs.lemmas.Result.{IfOk-weaker}
use Rattle.bundle_order_graph.specs.Order.{IsOrder}
use Rattle.bundle_order_sort.proofs.plan.plan_of.Goals as goal

pub plan_on-requires : goal.plan_on-requires
plan_on-requires c = subst (IsDistinct nat_eq) (sym c.deref.ensures.value) c.in_ok-list.ensures.once

pub returns : goal.returns
returns c = IfOk-weaker c.plan_on.result _ _ (λ plan its. its c.args.entry (subst (IsOrder c.args.graph.now c.args.entry) (sym c.deref.ensures.value) c.in_ok-list.ensures)) c.plan_on.ensures
