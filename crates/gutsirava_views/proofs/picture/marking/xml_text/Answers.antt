use Rattle.std.proofs.Common.{[], ◌∙◌, ap, arith, flat_map}
use Rattle.std.specs.Str.{chars}
use Rattle.std.proofs.lemmas.Iterator.{YieldsList-from_chars}
use Rattle.std.proofs.lemmas.Iterator.Consumers.{YieldsList-turn, YieldsList-end}
use Rattle.std.proofs.lemmas.List.{take_all}
use Rattle.gutsirava_views.specs.Xml.{xml_char}
use Rattle.gutsirava_views.proofs.TextLemmas.{char_step}
use Rattle.gutsirava_views.proofs.picture.marking.xml_text.Goals as goal

pub loop-c-preserved : goal.loop-c-preserved
loop-c-preserved c =
    let turn = YieldsList-turn (YieldsList-from_chars c.args.text.now c.utf8.text cc) c.loop-c.yielded _ c.loop-c.yielded_by _ _ c.in-Some.c c.in-Some.is c.next.ensures.steps in
    char_step xml_char (chars c.args.text.now) [] _ _ c.loop-c.yielded c.in-Some.c turn c.loop-c.invariant c.in_ok-push_char.ensures

pub returns : goal.returns
returns c =
    let end = YieldsList-end (YieldsList-from_chars c.args.text.now c.utf8.text cc) c.loop-c.yielded _ c.loop-c.yielded_by _ _ c.in-None.is c.next.ensures.steps in
    c.loop-c.invariant
    ∙ ap (flat_map xml_char) (take_all _ (chars c.args.text.now) (omega (arith, end.1)))
