-- One more value stands in order.
use Rattle.std.proofs.Common.{◌≡◌, length, get_or, refl, subst, arith, rules}
use Rattle.std.proofs.lemmas.List.Sorted.{IsPermutation-trans}
use Rattle.bundle_order_sort.proofs.ArrangeLemmas.{IsArrangedTo, IsArrangedTo-more, IsArrangedTo-none, AreArranged-all}
use Rattle.bundle_order_sort.proofs.arranging.Shuffle.arrange.Goals as goal

pub loop-place-init : goal.loop-place-init
loop-place-init g c = record {
  moved = search rules;
  arranged = λ still is. IsArrangedTo-none c.args.self c.args.values.now.items c.args.order.now still;
}

pub loop-place-preserved : goal.loop-place-preserved
loop-place-preserved g c = record {
  moved = IsPermutation-trans _ _ _ c.loop-place.invariant.moved c.bring.ensures.moved;
  arranged = λ still is. IsArrangedTo-more c.loop-place.shuffle c.bring.new.self c.args.values.now.items c.loop-place.values.items c.bring.new.values.items c.args.order.now c.loop-place.place (get_or c.args.order.now c.loop-place.place 0) is (c.loop-place.invariant.arranged still is) c.loop-place-test.true refl (c.bring.ensures.shuffled c.args.values.now.items) (c.bring.ensures.brought c.args.values.now.items);
}

pub returns-clause-arranged : goal.returns-clause-arranged
returns-clause-arranged g c = λ still is.
    let order = c.args.order.now in
    let all : c.loop-place.place ≡ length order = omega (arith, c.loop-place-test.false, c.loop-place.auto.place-end) in
    AreArranged-all c.loop-place.shuffle c.args.values.now.items c.loop-place.values.items order is (subst (λ n. IsArrangedTo c.loop-place.shuffle c.args.values.now.items c.loop-place.values.items order n) all (c.loop-place.invariant.arranged still is))
