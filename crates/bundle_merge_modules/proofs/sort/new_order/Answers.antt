use Rattle.std.proofs.Common.{ℕ, List, get_or, length, map, sym, ap, ◌∙◌, subst}
use Rattle.std.specs.List.{AllZip}
use Rattle.bundle_syntax.specs.Item.{Item}
use Rattle.bundle_merge_modules.specs.Parts.{all_in_order}
use Rattle.bundle_order_sort.specs.Plan.{IsPlanOf}
use Rattle.bundle_merge_modules.specs.Held.{trees_of}
use Rattle.bundle_merge_modules.specs.Placed.{IsAnyBlockPut, IsFitting, trees_lent}
use Rattle.bundle_merge_modules.proofs.PlacedLemmas.{all-fit, new-order}
use Rattle.bundle_merge_modules.proofs.InlinedLemmas.{lent-long, lent-made, owners-made}
use Rattle.bundle_merge_modules.proofs.sort.new_order.Goals as goal

pub order_by-requires : goal.order_by-requires
order_by-requires c = λ k d l.
    let pairs = all_in_order c.args.parts.now in
    let plan = c.in_ok-plan.plan in
    let items = c.in_ok-items.items.items in
    let planned : IsPlanOf c.args.graph.now c.args.entry (map (λ pair. pair.0) (trees_of pairs)) plan =
    subst (λ (o : List ℕ). IsPlanOf c.args.graph.now c.args.entry o plan) (c.deref.ensures.value ∙ (c.in_ok-owners.ensures ∙ sym (owners-made pairs))) c.in_ok-plan.ensures in
    let block = get_or plan.blocks.items k d in
    subst (λ n. IsFitting n block) (lent-long items pairs c.in_ok-items.ensures ∙ ap length (sym c.deref-2.ensures.value))
    (all-fit (trees_of pairs) c.args.graph.now planned.blocks plan.blocks.items planned.planned k d l)

pub returns : goal.returns
returns c =
    let g = c.args.graph.now in
    let pairs = all_in_order c.args.parts.now in
    let plan = c.in_ok-plan.plan in
    let items = c.in_ok-items.items.items in
    let planned : IsPlanOf g c.args.entry (map (λ pair. pair.0) (trees_of pairs)) plan =
    subst (λ (o : List ℕ). IsPlanOf g c.args.entry o plan) (c.deref.ensures.value ∙ (c.in_ok-owners.ensures ∙ sym (owners-made pairs))) c.in_ok-plan.ensures in
    let put = c.in_ok-order.ensures in
    let zipped : AllZip (IsAnyBlockPut (map (λ pair. pair.1) (trees_of pairs))) plan.blocks.items put.0 =
    subst (λ (l : List (List Item)). AllZip (IsAnyBlockPut l) plan.blocks.items put.0) (ap trees_lent c.deref-2.ensures.value ∙ lent-made items pairs c.in_ok-items.ensures) put.1 in
    new-order g c.args.entry (trees_of pairs) plan planned put.0 zipped c.in_ok-order.order.items put.2
