use Rattle.std.proofs.Common.{ℕ, List, Contains, sym, subst, inl, inr, arith}
use Rattle.std.proofs.lemmas.List.{take_all}
use Rattle.bundle_order_sort.specs.Items.{IsItemOf}
use Rattle.bundle_order_sort.proofs.ElementLemmas.{Contains-more}
use Rattle.bundle_order_sort.proofs.needs.sole_of.Goals as goal

pub loop-item-preserved : goal.loop-item-preserved
loop-item-preserved c = λ t h.
    elim ((Contains-more c.args.list.now c.loop-item.item-index 0 t c.loop-item-test.true).0 h) [
      | inl b ↦ c.loop-item.invariant t b
      | inr e ↦ subst (λ x. IsItemOf c.args.items.now x c.first_module-module.result) e (c.is_of.ensures.0 c.if-not-is_of.false)
    ]

pub returns : goal.returns
returns c = λ t h. c.loop-item.invariant t (subst (λ (l : List ℕ). Contains l t) (sym (take_all c.loop-item.item-index c.args.list.now (omega (arith, c.loop-item-test.false)))) h)
