-- The blocks are those of the list that is made.
use Rattle.std.proofs.Common.{map, nat_eq, subst, sym}
use Rattle.std.specs.List.{IsDistinct}
use Rattle.std.proofs.lemmas.Result.{IfOk-weaker}
use Rattle.bundle_order_graph.specs.Order.{IsOrder}
use Rattle.bundle_order_graph.proofs.graph.cycles.Goals as goal

pub cycles_on-requires : goal.cycles_on-requires
cycles_on-requires c = subst (IsDistinct nat_eq) (sym c.deref.ensures.value) c.in_ok-list.ensures.once

pub returns : goal.returns
returns c = IfOk-weaker c.cycles_on.result _ _ (λ blocks are. are c.args.entry (subst (IsOrder c.args.graph.now c.args.entry) (sym c.deref.ensures.value) c.in_ok-list.ensures)) c.cycles_on.ensures
