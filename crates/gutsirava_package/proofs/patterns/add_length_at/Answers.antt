-- The list at the place has what it had, and the others are as they were.
use Rattle.std.proofs.Common.{sym}
use Rattle.gutsirava_package.proofs.LengthLemmas.{lists-set, set_here}
use Rattle.gutsirava_package.proofs.patterns.add_length_at.Goals as goal

pub returns-in_err-add_length-clause-stay : goal.returns-in_err-add_length-clause-stay
returns-in_err-add_length-clause-stay c =
    lists-set c.args.lists.now.items c.args.place c.index_mut.result.now c.add_length.new.lengths c.requires (sym c.index_mut.ensures.value) c.in_err-add_length.ensures.stay

pub returns-clause-has : goal.returns-clause-has
returns-clause-has c = (
  c.add_length.new.lengths,
  set_here c.args.lists.now.items c.args.place c.add_length.new.lengths c.requires,
  c.in_ok-add_length.ensures.has,
)

pub returns-clause-stay : goal.returns-clause-stay
returns-clause-stay c =
    lists-set c.args.lists.now.items c.args.place c.index_mut.result.now c.add_length.new.lengths c.requires (sym c.index_mut.ensures.value) c.in_ok-add_length.ensures.stay
