-- Each module of the list is asked in turn, and the first refusal is that of the first fault.
use Rattle.std.proofs.Common.{ap, ◌∙◌, refl, arith, option_map}
use Rattle.std.proofs.lemmas.Result.{err_from_is_err_and}
use Rattle.bundler_entry.proofs.AskedLemmas.{answered-before, answers_all, answers_more, answers_past, refused_at}
use Rattle.bundler_entry.proofs.entry.ask_all.Goals as goal
use Rattle.bundler_entry.proofs.entry.ask_all.Goals.{in-Some+in_ok-push, in_default}

pub returns-in_err-properties-clause-refused : goal.returns-in_err-properties-clause-refused
returns-in_err-properties-clause-refused g c =
    let q = err_from_is_err_and c.from_residual.result c.from_residual.ensures.1 in
    let reached = c.args.linked.now.reached in
    rw (q.1, q.2)
    (λ p entry w linked.
    refused_at p entry c.args.call.now w reached linked.reached _ _ c.loop-which.which
    (omega (arith, c.loop-which-test.true, c.len-which-end.ensures, reached.places.ok.0))
    (answered-before ((goal.Hook-dyn g c.args.hook.now).may_give c.args.hook.now.1) p
    reached.list.items c.loop-which.which c.loop-which.answers.items
    (c.loop-which.invariant p entry w linked)) _
    (λ m at. c.in_err-properties.ensures.refused p entry m w linked.reached at))

pub loop-which-preserved : goal.loop-which-preserved
loop-which-preserved g c = λ p entry w linked.
    let hook = c.args.hook.now in
    let reached = c.args.linked.now.reached in
    let before = c.loop-which.invariant p entry w linked in
    elim c.match-branch-2.branch [
      | in-Some+in_ok-push its ↦
          answers_more p entry c.args.call.now w reached linked.reached
          ((goal.Hook-dyn g hook).may_give hook.1) c.loop-which.which
          c.loop-which.answers.items c.match-branch-2.answers.items _ _
          (ap (λ v. v.items) its.answers-is ∙ its.in_ok-push.ensures.items) refl
          (ap (option_map (λ given. given.items)) its.in-Some.is)
          (omega (arith, c.loop-which-test.true, c.len-which-end.ensures, reached.places.ok.0))
          before (λ m at. c.in_ok-properties.ensures.answered p entry m w linked.reached at)
      | in_default its ↦
          answers_past p entry c.args.call.now w reached linked.reached
          ((goal.Hook-dyn g hook).may_give hook.1) c.loop-which.which
          c.loop-which.answers.items c.match-branch-2.answers.items _
          (ap (λ v. v.items) its.answers-is)
          (ap (option_map (λ given. given.items)) its.in_default.is) before
          (λ m at. c.in_ok-properties.ensures.answered p entry m w linked.reached at)
    ]

pub returns-clause-answered : goal.returns-clause-answered
returns-clause-answered g c = λ p entry w linked.
    let reached = c.args.linked.now.reached in
    answers_all p entry c.args.call.now w reached linked.reached
    ((goal.Hook-dyn g c.args.hook.now).may_give c.args.hook.now.1) c.loop-which.which
    c.loop-which.answers.items
    (omega (arith, c.loop-which-test.false, c.len-which-end.ensures, reached.places.ok.0))
    (omega (arith, c.loop-which.auto.which-end, c.len-which-end.ensures, reached.places.ok.0))
    (c.loop-which.invariant p entry w linked)
