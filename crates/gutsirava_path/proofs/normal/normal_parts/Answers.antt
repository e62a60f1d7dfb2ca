-- Each part was a step, and the parts are the path's.
use Rattle.std.proofs.Common.{[], ap, ◌∙◌, fold, lit<}
use Rattle.std.proofs.lemmas.Iterator.Consumers.{YieldsList-end}
use Rattle.std.proofs.lemmas.Iterator.Splits.{YieldsList-from_str_split}
use Rattle.gutsirava_path.specs.Normal.{step}
use Rattle.gutsirava_path.proofs.normal.normal_parts.Goals as goal

pub returns : goal.returns
returns c =
    let parts = YieldsList-end (YieldsList-from_str_split 47 c.args.path.now (lit< tt) (cc) (cc) (cc))
    c.loop-part.yielded _ c.loop-part.yielded_by _ _ c.in-None.is c.next.ensures.steps in
    c.loop-part.invariant ∙ ap (fold (step c.args.rooted) []) parts.0
