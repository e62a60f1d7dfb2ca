-- Externals, the helper and the modules get their names in turn.
use Rattle.std.proofs.lemmas.Result.{IfErr-weaker}
use Rattle.bundle_merge_theory.specs.made.Given.{stands_written}
use Rattle.bundle_merge_names.specs.Added.{IsOfExternals, IsOfHelpers, IsOfLabels, IsOfModules}
use Rattle.bundle_merge_names.specs.Named.{IsGiven}
use Rattle.bundle_merge_names.proofs.LabelLemmas.{on-ok}
use Rattle.bundle_merge_names.proofs.LackLemmas.{adds-all, external-given, helpers-given, modules-given, refuses-after, refuses-like}
use Rattle.bundle_merge_names.proofs.ScopeLemmas.{handed-on}
use Rattle.bundle_merge_names.proofs.given.give_labels.Goals as goal

pub returns-clause-given : goal.returns-clause-given
returns-clause-given c = on-ok c.give_modules.result _ _ (λ adds p list answers are. adds-all p list answers c.args.bundle.now are c.args.names.now c.give_externals.new.names c.give_helpers.new.names c.give_modules.new.names (c.in_ok-give_externals.ensures.given p list are.handed are.modules) (c.in_ok-give_helpers.ensures.given p list answers are) (adds p list answers are)) c.give_modules.ensures.given

pub returns-in_err-give_externals-clause-refused : goal.returns-in_err-give_externals-clause-refused
returns-in_err-give_externals-clause-refused c = handed-on _ _ _ c.from_residual.ensures.1 (λ p list answers are.
    (refuses-like (IsOfExternals p list) (IsGiven (λ m. stands_written (answers m)) (IsOfLabels p list)) c.args.names.now c.in_err-give_externals.field-0.0 (external-given p list (λ m. stands_written (answers m))) (c.in_err-give_externals.ensures.refused p list are.handed are.modules)))

pub returns-in_err-give_helpers-clause-refused : goal.returns-in_err-give_helpers-clause-refused
returns-in_err-give_helpers-clause-refused c = handed-on _ _ _ c.from_residual-in_err-give_helpers.ensures.1 (λ p list answers are.
    (refuses-after p list (IsOfExternals p list) (IsGiven (λ m. stands_written (answers m)) (IsOfLabels p list)) c.args.names.now c.give_externals.new.names c.in_err-give_helpers.field-0.0 (external-given p list (λ m. stands_written (answers m))) (c.in_ok-give_externals.ensures.given p list are.handed are.modules)
    (refuses-like (IsOfHelpers p) (IsGiven (λ m. stands_written (answers m)) (IsOfLabels p list)) c.give_externals.new.names c.in_err-give_helpers.field-0.0 (helpers-given p list (λ m. stands_written (answers m))) (c.in_err-give_helpers.ensures.refused p list answers are))))

pub returns-clause-refused : goal.returns-clause-refused
returns-clause-refused c = IfErr-weaker c.give_modules.result _ _ (λ refusal refuses p list answers are.
    (refuses-after p list (IsOfExternals p list) (IsGiven (λ m. stands_written (answers m)) (IsOfLabels p list)) c.args.names.now c.give_externals.new.names refusal (external-given p list (λ m. stands_written (answers m))) (c.in_ok-give_externals.ensures.given p list are.handed are.modules)
    (refuses-after p list (IsOfHelpers p) (IsGiven (λ m. stands_written (answers m)) (IsOfLabels p list)) c.give_externals.new.names c.give_helpers.new.names refusal (helpers-given p list (λ m. stands_written (answers m))) (c.in_ok-give_helpers.ensures.given p list answers are)
    (refuses-like (IsGiven (λ m. stands_written (answers m)) (IsOfModules p)) (IsGiven (λ m. stands_written (answers m)) (IsOfLabels p list)) c.give_helpers.new.names refusal (modules-given p list (λ m. stands_written (answers m))) (refuses p list answers are))))) c.give_modules.ensures.refused
