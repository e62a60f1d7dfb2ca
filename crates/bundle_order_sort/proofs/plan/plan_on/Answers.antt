use Rattle.std.proofs.Common.{ℕ, List, map, subst, Vec, Global}
use Rattle.std.specs.List.{AllZip}
use Rattle.bundle_order_sort.specs.Places.{is_in_some}
use Rattle.bundle_order_sort.specs.Merged.{merged}
use Rattle.bundle_order_sort.specs.Plan.{IsBlock}
use Rattle.bundle_order_sort.proofs.PlanLemmas.{IsPlanOf-blocks}
use Rattle.bundle_order_sort.proofs.plan.plan_on.Goals as goal

abbrev all_in : List (Vec ℕ Global) → List (List ℕ)
all_in lists = map (λ v. v.items) lists

pub returns : goal.returns
returns c = λ entry order.
    let owners = c.args.owners.now in
    let list = c.args.list.now in
    let cycles = c.in_ok-cycles.cycles.items in
    let blocks = c.in_ok-blocks.blocks in
    let left = c.in_ok-left.left in
    IsPlanOf-blocks c.args.graph.now entry owners list (all_in cycles) (record { blocks = blocks; left = left }) order (c.in_ok-cycles.ensures entry order)
    (subst (λ (l : List (Vec ℕ Global)). AllZip (IsBlock owners) (merged (λ m. is_in_some m (all_in l)) list (all_in l)) blocks.items) c.deref.ensures.value
    (c.in_ok-blocks.ensures owners c.in_ok-table.ensures))
    c.in_ok-left.ensures
