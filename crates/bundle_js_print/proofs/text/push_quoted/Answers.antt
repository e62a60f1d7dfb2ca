-- What stands behind the first quote is read as the letters so far, and at the end as all of them.
use Rattle.std.proofs.Common.{arith}
use Rattle.std.proofs.lemmas.Iterator.{YieldsList-from_chars}
use Rattle.std.proofs.lemmas.Iterator.Consumers.{YieldsList-end}
use Rattle.bundle_js_print.proofs.Literals.{on_push, Writes-nil, Writes-push, PutsLiteral-quoted}
use Rattle.bundle_js_print.proofs.text.push_quoted.Goals as goal

pub loop-letter-init : goal.loop-letter-init
loop-letter-init c = (omega arith, Writes-nil c.args.charset _)

pub loop-letter-preserved : goal.loop-letter-preserved
loop-letter-preserved c = (
  omega arith,
  Writes-push c.args.charset _ _ _ c.loop-letter.yielded c.in-Some.letter c.loop-letter.invariant.1 c.in_ok-push_letter.ensures.reads,
)

pub returns-clause-literal : goal.returns-clause-literal
returns-clause-literal c =
    let all = YieldsList-end (YieldsList-from_chars c.args.value.now c.utf8.value cc) c.loop-letter.yielded _ c.loop-letter.yielded_by _ _ c.in-None.is c.next.ensures.steps in
    on_push c.push-2.result _ _ _ c.push-2.ensures.bytes
    (λ e. PutsLiteral-quoted c.args.charset _ _ _ _ c.args.value.now c.loop-letter.yielded c.in_ok-push.ensures.bytes c.loop-letter.invariant.1 all.0 e)
