-- Lists that go last leave the others as they are.
use Rattle.std.proofs.Common.{arith, subst, sym}
use Rattle.std.proofs.lemmas.Grind.{common_steps}
use Rattle.gutsirava_package.specs.Lengths.{AllStay}
use Rattle.gutsirava_package.proofs.LengthLemmas.{lists-push}
use Rattle.gutsirava_package.proofs.patterns.make_lists.Goals as goal

pub loop-preserved : goal.loop-preserved
loop-preserved c = record {
  stay = lists-push _ _ _ _ c.loop.invariant.stay c.in_ok-push.ensures.items;
  count = grind (arith, common_steps, c.in_ok-push.ensures.items, c.loop.invariant.count);
}

pub returns-in_err-push-clause-stay : goal.returns-in_err-push-clause-stay
returns-in_err-push-clause-stay c = subst (AllStay c.args.lists.now.items) (sym c.in_err-push.ensures.items) c.loop.invariant.stay

pub returns-clause-stay : goal.returns-clause-stay
returns-clause-stay c = c.loop.invariant.stay
