-- What linking, the hook and merging tell is told of the program of the entry, and so is what its items are made for.
use Rattle.std.proofs.Common.{length, subst, sym}
use Rattle.bundle_rules.specs.Kept.{program_of}
use Rattle.bundler_entry.specs.Asked.{AreAnswersBefore}
use Rattle.bundler_entry.proofs.StatementLemmas.{asked-answers}
use Rattle.bundler_call.specs.Kept.{settings_of}
use Rattle.bundler_call.proofs.Growing.{handed_on}
use Rattle.bundler_call.proofs.Sources.{merged_right, refused_hook, refused_linking, refused_merging, call_of}
use Rattle.bundler_call.proofs.linked.caused_on.Goals as goal

pub returns-in_err-links-clause-refused : goal.returns-in_err-links-clause-refused
returns-in_err-links-clause-refused g c =
    handed_on c.from_residual.result c.in_err-links.field-0.0 _ c.from_residual.ensures.1 (λ kept list read there.
    let p = program_of kept (settings_of c.args.call.now.config.now) c.args.entry in
    refused_linking _ _ p c.in_err-links.field-0.0 (c.in_err-links.ensures.refused p (call_of kept list c.args.call.now c.args.entry read there)))

pub returns-in_err-answers-clause-refused : goal.returns-in_err-answers-clause-refused
returns-in_err-answers-clause-refused g c =
    handed_on c.from_residual-in_err-answers.result c.in_err-answers.field-0.0 _ c.from_residual-in_err-answers.ensures.1 (λ kept list read there.
    let p = program_of kept (settings_of c.args.call.now.config.now) c.args.entry in
    let is_call = call_of kept list c.args.call.now c.args.entry read there in
    let its = c.in_ok-links.ensures.linked p is_call in
    refused_hook _ _ p c.in_ok-links.links.reached.list.items c.in_err-answers.field-0.0 its.links.faultless its.reached.is_list (c.in_err-answers.ensures.refused p c.args.entry is_call its))

pub returns-in_err-module-clause-refused : goal.returns-in_err-module-clause-refused
returns-in_err-module-clause-refused g c =
    handed_on c.from_residual-in_err-module.result c.in_err-module.field-0.0 _ c.from_residual-in_err-module.ensures.1 (λ kept list read there.
    let p = program_of kept (settings_of c.args.call.now.config.now) c.args.entry in
    let is_call = call_of kept list c.args.call.now c.args.entry read there in
    let its = c.in_ok-links.ensures.linked p is_call in
    let asked = subst (AreAnswersBefore ((goal.Hook-dyn g c.args.hook.now).may_give c.args.hook.now.1) p c.in_ok-links.links.reached.list.items (length c.in_ok-links.links.reached.list.items)) (sym c.deref.ensures.value) (c.in_ok-answers.ensures.answered p c.args.entry is_call its) in
    refused_merging _ _ p c.args.entry c.args.call.now is_call c.in_ok-links.links its _ asked c.in_err-module.field-0.0
    (c.in_err-module.ensures.refused p c.args.entry is_call its (asked-answers p c.args.entry c.args.call.now is_call c.in_ok-links.links its _ _ asked)))

pub returns-clause-made : goal.returns-clause-made
returns-clause-made g c = λ kept list read there.
    let p = program_of kept (settings_of c.args.call.now.config.now) c.args.entry in
    let is_call = call_of kept list c.args.call.now c.args.entry read there in
    let its = c.in_ok-links.ensures.linked p is_call in
    let asked = subst (AreAnswersBefore ((goal.Hook-dyn g c.args.hook.now).may_give c.args.hook.now.1) p c.in_ok-links.links.reached.list.items (length c.in_ok-links.links.reached.list.items)) (sym c.deref.ensures.value) (c.in_ok-answers.ensures.answered p c.args.entry is_call its) in
    merged_right _ _ p c.args.entry c.args.call.now is_call c.in_ok-links.links its _ asked c.in_ok-module.module
    (c.in_ok-module.ensures.made p c.args.entry is_call its (asked-answers p c.args.entry c.args.call.now is_call c.in_ok-links.links its _ _ asked))

pub returns-clause-told : goal.returns-clause-told
returns-clause-told g c = λ kept list read there.
    let p = program_of kept (settings_of c.args.call.now.config.now) c.args.entry in
    let is_call = call_of kept list c.args.call.now c.args.entry read there in
    c.in_ok-causes.ensures p c.args.entry is_call (c.in_ok-links.ensures.linked p is_call)
