use Rattle.std.proofs.Common.{◌++◌, ap, sym, ◌∙◌, append-nil, append_assoc, nat_eq, take, []}
use Rattle.std.proofs.lemmas.List.{take_all}
use Rattle.std.specs.Prelude.{filter_map}
use Rattle.std.specs.List.{cons_option, list_any}
use Rattle.bundle_link_index.specs.Handed.{modules_called}
use Rattle.bundle_link_index.proofs.ProgramLemmas.{some_more}
use Rattle.bundle_link_index.proofs.kinds.add_called.Goals as goal

pub loop-call-init : goal.loop-call-init
loop-call-init c = λ before known n. known n ∙ ap (list_any (nat_eq n)) (sym (append-nil before))

pub loop-call-preserved : goal.loop-call-preserved
loop-call-preserved c = λ before known n.
    let done = filter_map (modules_called c.args.link_module.now) (take c.loop-call.call-index c.args.calls.now) in
    c.in_ok-add_number.ensures (before ++ done) (c.loop-call.invariant before known) n
    ∙ ap (λ o. list_any (nat_eq n) ((before ++ done) ++ cons_option o [])) c.called.ensures
    ∙ ap (list_any (nat_eq n)) (append_assoc before done _ ∙ ap (λ l. before ++ l) (some_more (modules_called c.args.link_module.now) c.args.calls.now c.loop-call.call-index _ c.loop-call-test.true))

pub returns : goal.returns
returns c = λ before known n.
    c.loop-call.invariant before known n
    ∙ ap (λ l. list_any (nat_eq n) (before ++ filter_map (modules_called c.args.link_module.now) l)) (take_all c.loop-call.call-index c.args.calls.now c.loop-call-test.false)
