-- Each character was tried, up to one that continues no name.
use Rattle.std.proofs.Common.{rules, tests}
use Rattle.std.proofs.lemmas.Iterator.{YieldsList-from_chars}
use Rattle.std.proofs.lemmas.Iterator.Search.{all_from_yields_List}
use Rattle.gutsirava_words.specs.Variable as names
use Rattle.gutsirava_words.proofs.name.are_parts.Goals as goal

pub returns : goal.returns
returns c =
    all_from_yields_List names.continues_name _ _ _ c.all.ensures.ran
    (YieldsList-from_chars c.args.text.now c.utf8.text (cc)) (λ x b q k. search (rules, tests))
