-- The externals so far are texts.
use Rattle.gutsirava_c.proofs.Refused.{AreTextsTo}
use Rattle.gutsirava_c.proofs.request.add_externals.Given as goal

abbrev pub invariant-loop-external : goal.invariant-loop-external
invariant-loop-external l = AreTextsTo l.externals l.external-index
