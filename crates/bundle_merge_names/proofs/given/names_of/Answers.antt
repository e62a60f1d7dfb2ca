-- Names that hold nothing get all.
use Rattle.bundle_merge_names.proofs.ScopeLemmas.{handed-on}
use Rattle.bundle_merge_names.proofs.given.names_of.Goals as goal

pub returns-clause-named : goal.returns-clause-named
returns-clause-named c = λ p list answers parts. c.in_ok-give_names.ensures.given (record {
  locals = c.new-names.ensures.locals;
  scopes = c.new-names.ensures.scopes;
  answered = c.new-names.ensures.answered;
  labels = c.new-names.ensures.labels;
  contexts = c.new-names.ensures.contexts;
}) p list answers parts

pub returns-clause-few : goal.returns-clause-few
returns-clause-few c = λ p list answers parts. c.in_ok-give_names.ensures.few (record {
  locals = c.new-names.ensures.locals;
  scopes = c.new-names.ensures.scopes;
  answered = c.new-names.ensures.answered;
  labels = c.new-names.ensures.labels;
  contexts = c.new-names.ensures.contexts;
}) p list answers parts

pub returns-in_err-give_names-clause-refused : goal.returns-in_err-give_names-clause-refused
returns-in_err-give_names-clause-refused c = handed-on _ _ _ c.from_residual.ensures.1 (λ p list answers parts. c.in_err-give_names.ensures.refused (record {
  locals = c.new-names.ensures.locals;
  scopes = c.new-names.ensures.scopes;
  answered = c.new-names.ensures.answered;
  labels = c.new-names.ensures.labels;
  contexts = c.new-names.ensures.contexts;
}) p list answers parts)
