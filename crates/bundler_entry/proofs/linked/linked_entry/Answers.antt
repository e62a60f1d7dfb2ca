-- What is linked is the entry's, and a refusal is of its program.
use Rattle.std.proofs.Common.{ℕ, Bool, List, nat_eq, sym, subst}
use Rattle.std.specs.List.{IsDistinct}
use Rattle.std.proofs.lemmas.Result.{err_from_is_err_and}
use Rattle.bundle_order_graph.specs.Order.{IsOrder}
use Rattle.bundle_order_sort.specs.Plan.{IsPlanAsked}
use Rattle.bundler_entry.proofs.linked.linked_entry.Goals as goal

pub returns-in_err-linking-clause-refused : goal.returns-in_err-linking-clause-refused
returns-in_err-linking-clause-refused c =
    let q = err_from_is_err_and c.from_residual-in_err-linking.result c.from_residual-in_err-linking.ensures.1 in
    rw (q.1, q.2) (λ p w. c.in_err-linking.ensures.refused p c.args.entry w (c.in_ok-reached.ensures.reached p w.program.files w.begins w.there))

pub returns-in_err-plan-clause-refused : goal.returns-in_err-plan-clause-refused
returns-in_err-plan-clause-refused c =
    let q = err_from_is_err_and c.from_residual-in_err-plan.result c.from_residual-in_err-plan.ensures.1 in
    rw (q.1, q.2) (λ p w. tt)

pub returns-clause-linked : goal.returns-clause-linked
returns-clause-linked c = λ p w.
    let reached = c.in_ok-reached.ensures.reached p w.program.files w.begins w.there in
    record {
      reached = reached;
      links = c.in_ok-linking.ensures.linked p c.args.entry w reached;
      planned =
          let asked = c.args.call.now.config.now.in_standard_order in
          let graph = c.args.call.now.program.now.files.graph in
          let list = c.in_ok-reached.reached.list.items in
          let made = c.in_ok-plan.ensures c.args.entry (subst (IsOrder graph c.args.entry) (sym c.deref.ensures.value) c.in_ok-reached.ensures.list) in
          subst (λ (its : Bool). IsPlanAsked its graph p.entry list c.in_ok-plan.plan) (sym w.in_standard_order)
          (subst (λ (entry : ℕ). IsPlanAsked asked graph entry list c.in_ok-plan.plan) (sym w.begins)
          (subst (λ (its : List ℕ). IsPlanAsked asked graph c.args.entry its c.in_ok-plan.plan) c.deref.ensures.value made));
    }

pub plan_asked-requires : goal.plan_asked-requires
plan_asked-requires c = subst (IsDistinct nat_eq) (sym c.deref.ensures.value) c.in_ok-reached.ensures.list.once
