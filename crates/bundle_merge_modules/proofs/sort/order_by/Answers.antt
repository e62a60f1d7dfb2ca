use Rattle.std.proofs.Common.{◌≡◌, ◌++◌, ◌∷◌, ◌+◌, [], ℕ, List, take, sym, ap, ◌∙◌, subst}
use Rattle.std.specs.List.{AllZip}
use Rattle.std.proofs.lemmas.List.{take_more}
use Rattle.bundle_order_sort.specs.declared.plan.Block.{Block}
use Rattle.bundle_order_sort.proofs.PlanLemmas.{flat-push}
use Rattle.bundle_merge_modules.specs.Placed.{IsAnyBlockPut, trees_lent}
use Rattle.bundle_merge_modules.proofs.PlacedLemmas.{zip-push}
use Rattle.bundle_merge_modules.proofs.sort.order_by.Goals as goal

pub loop-block-preserved : goal.loop-block-preserved
loop-block-preserved c =
    let puts = IsAnyBlockPut (trees_lent c.args.items.now) in
    let blocks = c.args.plan.now.blocks.items in
    let here = c.deref-block-items.result.now in
    let i = c.loop-block.block-index in
    let x = c.block-item.result in
    let was = c.loop-block.invariant in
    let more : take (i + 1) blocks ≡ take i blocks ++ x ∷ [] =
    ap (take (i + 1)) (sym c.deref-block-items.ensures.value)
    ∙ (take_more here i x c.loop-block-test.true
    ∙ (ap (λ (y : Block). take i here ++ y ∷ []) (sym c.block-item.is)
    ∙ ap (λ (l : List Block). take i l ++ x ∷ []) c.deref-block-items.ensures.value)) in (
      was.0 ++ c.in_ok-places.places.items ∷ [],
      subst (λ (l : List Block). AllZip puts l (was.0 ++ c.in_ok-places.places.items ∷ [])) (sym more) (zip-push puts (take i blocks) was.0 x c.in_ok-places.places.items was.1 c.in_ok-places.ensures),
      c.in_ok-extend_from_slice.ensures.items
          ∙ (ap (λ (l : List ℕ). c.loop-block.order.items ++ l) c.deref.ensures.value
          ∙ (ap (λ (l : List ℕ). l ++ c.in_ok-places.places.items) was.2
          ∙ sym (flat-push (λ (l : List ℕ). l) was.0 c.in_ok-places.places.items))),
    )
