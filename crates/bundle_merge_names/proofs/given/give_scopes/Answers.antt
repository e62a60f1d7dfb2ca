-- The scopes get contexts one behind the other, first those of the module.
use Rattle.std.proofs.Common.{refl}
use Rattle.bundle_merge_names.specs.declared.error.MergeError.TheVariants.{OutOfMemory}
use Rattle.bundle_merge_names.specs.Inside.{answer_of, in_answer, in_list, memory}
use Rattle.bundle_merge_names.specs.Numbers.{position}
use Rattle.bundle_merge_names.proofs.ModuleLemmas.{gives-module}
use Rattle.bundle_merge_names.proofs.ScopeLemmas.{handed-on}
use Rattle.bundle_merge_names.proofs.given.give_scopes.Goals as goal

pub returns-clause-given : goal.returns-clause-given
returns-clause-given c = gives-module c.args.part.now.denotations.now (answer_of c.args.bundle.now c.args.which) c.args.part.now.local c.args.names.now c.scope_contexts.new.names c.answer_contexts.new.names c.add_module.new.self c.in_ok-scopes.scopes c.in_ok-answered.answered c.in_ok-scopes.ensures.given c.in_ok-answered.ensures.given c.in_ok-add_module.ensures.locals c.in_ok-add_module.ensures.scopes c.in_ok-add_module.ensures.answered c.in_ok-add_module.ensures.labels c.in_ok-add_module.ensures.contexts

pub returns-in_err-scopes-clause-refused : goal.returns-in_err-scopes-clause-refused
returns-in_err-scopes-clause-refused c = handed-on _ _ _ c.from_residual.ensures.1 (in_list c.in_err-scopes.ensures.refused)

pub returns-in_err-answered-clause-refused : goal.returns-in_err-answered-clause-refused
returns-in_err-answered-clause-refused c = handed-on _ _ _ c.from_residual-in_err-answered.ensures.1 (in_answer (position c.scope_contexts.new.names.contexts) c.in_ok-scopes.ensures.given.has.taken c.in_err-answered.ensures.refused)

pub returns-in_err-add_module-clause-refused : goal.returns-in_err-add_module-clause-refused
returns-in_err-add_module-clause-refused c = handed-on _ OutOfMemory _ c.from_residual-in_err-add_module.ensures.1 (memory refl)
