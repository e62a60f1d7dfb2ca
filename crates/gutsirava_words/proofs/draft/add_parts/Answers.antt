-- Each part was added, and the parts are the value's.
use Rattle.std.proofs.Common.{ap, ◌∙◌, ◌++◌, map, string_bytes, lit<}
use Rattle.std.proofs.lemmas.Iterator.Consumers.{YieldsList-end}
use Rattle.std.proofs.lemmas.Iterator.Splits.{YieldsList-from_str_split}
use Rattle.gutsirava_words.proofs.draft.add_parts.Goals as goal

pub returns : goal.returns
returns c =
    let parts = YieldsList-end (YieldsList-from_str_split 44 c.args.value.now (lit< tt) (cc) (cc) (cc))
    c.loop-part.yielded _ c.loop-part.yielded_by _ _ c.in-None.is c.next.ensures.steps in
    c.loop-part.invariant ∙ ap (λ xs. map string_bytes c.args.parts.now.items ++ xs) parts.0
