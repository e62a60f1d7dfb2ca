use Rattle.std.proofs.Common.{◌++◌, ◌∙◌, ap, arith, flat_map, string_bytes}
use Rattle.std.specs.Str.{chars}
use Rattle.std.proofs.lemmas.Iterator.{YieldsList-from_chars}
use Rattle.std.proofs.lemmas.Iterator.Consumers.{YieldsList-turn, YieldsList-end}
use Rattle.std.proofs.lemmas.List.{take_all}
use Rattle.gutsirava_views.specs.Json.{char_text}
use Rattle.gutsirava_views.proofs.TextLemmas.{char_step}
use Rattle.gutsirava_views.proofs.json.push_escaped.Goals as goal

pub loop-c-preserved : goal.loop-c-preserved
loop-c-preserved c =
    let turn = YieldsList-turn (YieldsList-from_chars c.args.value.now c.utf8.value cc) c.loop-c.yielded _ c.loop-c.yielded_by _ _ c.in-Some.c c.in-Some.is c.next.ensures.steps in
    char_step char_text (chars c.args.value.now) _ _ _ c.loop-c.yielded c.in-Some.c turn c.loop-c.invariant c.in_ok-push_char.ensures

pub returns : goal.returns
returns c =
    let end = YieldsList-end (YieldsList-from_chars c.args.value.now c.utf8.value cc) c.loop-c.yielded _ c.loop-c.yielded_by _ _ c.in-None.is c.next.ensures.steps in
    c.loop-c.invariant
    ∙ ap (λ l. string_bytes c.args.text.now ++ flat_map char_text l) (take_all _ (chars c.args.value.now) (omega (arith, end.1)))
