-- The files so far are texts.
use Rattle.gutsirava_c.proofs.Refused.{AreFilesTo}
use Rattle.gutsirava_c.proofs.request.texts_of.Given as goal

abbrev pub invariant-loop-name : goal.invariant-loop-name
invariant-loop-name l = AreFilesTo l.members l.name-index
