-- The hook is asked for the module as its loader named it.
use Rattle.std.proofs.Common.{ap, ◌==◌, ◌-◌, ◌∙◌}
use Rattle.std.proofs.lemmas.Result.{err_from_is_err_and}
use Rattle.bundler_entry.proofs.AskedLemmas.{answer_of, refused_for}
use Rattle.bundler_entry.proofs.entry.ask_at.Goals as goal

pub returns-in_err-properties-in-Some-clause-refused : goal.returns-in_err-properties-in-Some-clause-refused
returns-in_err-properties-in-Some-clause-refused g c =
    let q = err_from_is_err_and c.from_residual.result c.from_residual.ensures.1 in
    rw (q.1, q.2)
    (λ p entry m w r at.
    refused_for p entry c.args.call.now w c.args.reached.now r _ _ c.args.which m at _ _ (c.in-Some.ensures.asked p entry m w r at) _ _ _
    (ap (λ n. c.args.which == n) (c.saturating_sub.ensures ∙ ap (λ n. n - 1) (c.len.ensures ∙ c.args.reached.now.places.ok.0)))
    c.setting_of-is_iife.ensures.iife
    c.in_err-properties-in-Some.ensures.refused)

pub returns-in_ok-properties-in-Some-clause-answered : goal.returns-in_ok-properties-in-Some-clause-answered
returns-in_ok-properties-in-Some-clause-answered g c = λ p entry m w r at.
    answer_of p entry c.args.call.now w c.args.reached.now r
    ((goal.Hook-dyn g c.args.hook.now).may_give c.args.hook.now.1) c.args.which m at _ _
    (c.in-Some.ensures.asked p entry m w r at) _ _ _
    (ap (λ n. c.args.which == n)
    (c.saturating_sub.ensures ∙ ap (λ n. n - 1) (c.len.ensures ∙ c.args.reached.now.places.ok.0)))
    c.setting_of-is_iife.ensures.iife
    c.in_ok-properties-in-Some.ensures.given c.in_ok-properties-in-Some.ensures.right

pub returns-in-None-clause-answered : goal.returns-in-None-clause-answered
returns-in-None-clause-answered g c = λ p entry m w r at. c.in-None.ensures.unasked p entry m w r at
