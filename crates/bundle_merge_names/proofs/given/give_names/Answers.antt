-- First the scopes get contexts, and then labels their names.
use Rattle.std.proofs.lemmas.Result.{IfErr-weaker}
use Rattle.bundle_merge_names.specs.Refused.{for_scopes}
use Rattle.bundle_merge_names.proofs.LabelLemmas.{on-ok}
use Rattle.bundle_merge_names.proofs.NamesLemmas.{names-given}
use Rattle.bundle_merge_names.proofs.LackLemmas.{names-few, names-refused}
use Rattle.bundle_merge_names.proofs.ScopeLemmas.{handed-on}
use Rattle.bundle_merge_names.proofs.given.give_names.Goals as goal

pub returns-clause-given : goal.returns-clause-given
returns-clause-given c = on-ok c.give_labels.result _ _ (λ gives nothing p list answers parts. names-given c.args.bundle.now c.args.names.now c.give_contexts.new.names c.give_labels.new.names nothing c.in_ok-give_contexts.ensures.scopes c.in_ok-give_contexts.ensures.labels p list answers parts (gives p list answers parts)) c.give_labels.ensures.given

pub returns-clause-few : goal.returns-clause-few
returns-clause-few c = on-ok c.give_labels.result _ _ (λ gives nothing p list answers parts. names-few p list answers c.args.bundle.now parts c.args.names.now c.give_contexts.new.names nothing (c.in_ok-give_contexts.ensures.scopes nothing) c.in_ok-give_contexts.ensures.labels c.give_labels.new.names (gives p list answers parts)) c.give_labels.ensures.given

pub returns-in_err-give_contexts-clause-refused : goal.returns-in_err-give_contexts-clause-refused
returns-in_err-give_contexts-clause-refused c = handed-on _ _ _ c.from_residual.ensures.1 (λ nothing p list answers parts. for_scopes (c.in_err-give_contexts.ensures.refused nothing p list answers parts))

pub returns-clause-refused : goal.returns-clause-refused
returns-clause-refused c = IfErr-weaker c.give_labels.result _ _ (λ refusal refuses nothing p list answers parts. names-refused p list answers c.args.bundle.now parts c.args.names.now c.give_contexts.new.names nothing (c.in_ok-give_contexts.ensures.scopes nothing) c.in_ok-give_contexts.ensures.labels refusal (refuses p list answers parts)) c.give_labels.ensures.refused
