-- What is noted of the keys stays, and that of the last one is noted first.
use Rattle.gutsirava_package.proofs.LengthLemmas.{noted-more, noted-stay}
use Rattle.gutsirava_package.proofs.patterns.EntryKeys.add.Goals as goal

pub invariant_of-self : goal.invariant_of-self
invariant_of-self c = noted-stay _ _ _ c.self.invariant c.in_err-note.ensures.stay

pub invariant_of-self-2 : goal.invariant_of-self-2
invariant_of-self-2 c =
    noted-more _ _ _ _ (noted-stay _ _ _ c.self.invariant c.in_ok-note.ensures.stay) c.add.ensures.keys c.in_ok-note.ensures.noted
