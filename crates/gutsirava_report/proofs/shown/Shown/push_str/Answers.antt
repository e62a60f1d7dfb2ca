use Rattle.std.proofs.Common.{◌++◌, ◌∙◌, ap, arith}
use Rattle.std.specs.Str.{chars}
use Rattle.std.proofs.lemmas.Iterator.{YieldsList-from_chars}
use Rattle.std.proofs.lemmas.Iterator.Consumers.{YieldsList-turn, YieldsList-end}
use Rattle.std.proofs.lemmas.List.{take_all}
use Rattle.gutsirava_report.specs.Quiet.{is_quiet_char}
use Rattle.gutsirava_report.specs.Shown.{chars_of}
use Rattle.gutsirava_report.proofs.QuietLemmas.{push_step}
use Rattle.gutsirava_report.proofs.shown.Shown.push_str.Goals as goal

pub loop-c-preserved : goal.loop-c-preserved
loop-c-preserved c =
    let turn = YieldsList-turn (YieldsList-from_chars c.args.text.now c.utf8.text cc) c.loop-c.yielded _ c.loop-c.yielded_by _ _ c.in-Some.c c.in-Some.is c.next.ensures.steps in
    λ quiet. push_step is_quiet_char (chars c.args.text.now) (chars_of c.args.self.now) _ _ c.loop-c.yielded c.in-Some.c turn quiet
    (c.loop-c.invariant quiet) c.in_ok-push.ensures

pub returns : goal.returns
returns c =
    let end = YieldsList-end (YieldsList-from_chars c.args.text.now c.utf8.text cc) c.loop-c.yielded _ c.loop-c.yielded_by _ _ c.in-None.is c.next.ensures.steps in
    λ quiet. c.loop-c.invariant quiet
    ∙ ap (λ l. chars_of c.args.self.now ++ l) (take_all _ (chars c.args.text.now) (omega (arith, end.1)))
