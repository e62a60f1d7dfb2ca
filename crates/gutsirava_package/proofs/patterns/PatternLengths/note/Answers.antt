-- What is noted are the parts.
use Rattle.gutsirava_package.proofs.LengthLemmas.{noted-nothing, noted-parts}
use Rattle.gutsirava_package.proofs.patterns.PatternLengths.note.Goals as goal

pub returns-in_ok-add-in-Some-clause-noted : goal.returns-in_ok-add-in-Some-clause-noted
returns-in_ok-add-in-Some-clause-noted c = noted-parts c.args.key.now c.in-Some.base.now c.in-Some.trailer.now c.add.new.self c.in-Some.ensures c.in_ok-add-in-Some.ensures.noted

pub returns-in-None-clause-noted : goal.returns-in-None-clause-noted
returns-in-None-clause-noted c = noted-nothing c.args.key.now c.args.self.now c.in-None.ensures
