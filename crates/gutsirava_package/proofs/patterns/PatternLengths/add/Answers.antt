-- Each step keeps what was noted.
use Rattle.gutsirava_package.proofs.LengthLemmas.{extended-stays, lengths-stay}
use Rattle.gutsirava_package.proofs.patterns.PatternLengths.add.Goals as goal

pub returns-in_err-mark-clause-stay : goal.returns-in_err-mark-clause-stay
returns-in_err-mark-clause-stay c = lengths-stay _ _ c.in_err-mark.ensures.stay (λ at own is. is) (λ place size has. has)

pub returns-in_err-place-clause-stay : goal.returns-in_err-place-clause-stay
returns-in_err-place-clause-stay c =
    lengths-stay _ _ c.in_ok-mark.ensures.stay (extended-stays _ _ _ c.in_err-place.ensures.keys) (λ place size has. has)

pub returns-in_err-make_lists-clause-stay : goal.returns-in_err-make_lists-clause-stay
returns-in_err-make_lists-clause-stay c =
    lengths-stay _ _ c.in_ok-mark.ensures.stay (extended-stays _ _ _ c.in_ok-place.ensures.keys) c.in_err-make_lists.ensures.stay

pub returns-in_err-add_length_at-clause-stay : goal.returns-in_err-add_length_at-clause-stay
returns-in_err-add_length_at-clause-stay c =
    lengths-stay _ _ c.in_ok-mark.ensures.stay (extended-stays _ _ _ c.in_ok-place.ensures.keys)
    (λ place size has. c.in_err-add_length_at.ensures.stay place size (c.in_ok-make_lists.ensures.stay place size has))

pub returns-clause-noted : goal.returns-clause-noted
returns-clause-noted c = record {
  is_marked = c.in_ok-mark.ensures.marked;
  place = c.in_ok-place.place;
  base_at = c.in_ok-place.ensures.place.0;
  has = c.in_ok-add_length_at.ensures.has;
}

pub returns-clause-stay : goal.returns-clause-stay
returns-clause-stay c =
    lengths-stay _ _ c.in_ok-mark.ensures.stay (extended-stays _ _ _ c.in_ok-place.ensures.keys)
    (λ place size has. c.in_ok-add_length_at.ensures.stay place size (c.in_ok-make_lists.ensures.stay place size has))
