-- By the names of all options.
use Rattle.gutsirava_words.proofs.KeyLemmas.{named_is}
use Rattle.gutsirava_words.proofs.key.Key.from_name.Goals as goal

pub returns-clause-named : goal.returns-clause-named
returns-clause-named c = named_is c.args.name.now c.written.result c.written.ensures.found c.written.ensures.none
