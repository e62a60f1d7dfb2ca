-- Each pair was added, and the pairs are the value's.
use Rattle.std.proofs.Common.{ap, ◌∙◌, ◌++◌, map, lit<}
use Rattle.std.proofs.lemmas.Iterator.Consumers.{YieldsList-end}
use Rattle.std.proofs.lemmas.Iterator.Splits.{YieldsList-from_str_split}
use Rattle.gutsirava_words.specs.Draft.{pair_text}
use Rattle.gutsirava_words.proofs.draft.add_globals.Goals as goal

pub returns : goal.returns
returns c =
    let parts = YieldsList-end (YieldsList-from_str_split 44 c.args.value.now (lit< tt) (cc) (cc) (cc))
    c.loop-pair.yielded _ c.loop-pair.yielded_by _ _ c.in-None.is c.next.ensures.steps in
    c.loop-pair.invariant ∙ ap (λ xs. map pair_text c.args.globals.now.items ++ xs) parts.0
