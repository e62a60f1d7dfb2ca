-- Each module that is gone over gets names for what it needs.
use Rattle.std.proofs.Common.{◌+◌, length, refl, subst, arith}
use Rattle.std.proofs.lemmas.Option.{slice_get_read}
use Rattle.bundle_scope_denote.proofs.LoopLemmas.{take-whole}
use Rattle.bundle_merge_theory.specs.made.Given.{stands_written}
use Rattle.bundle_merge_names.specs.Added.{GivesNames, IsOfModules}
use Rattle.bundle_merge_names.specs.Named.{IsGiven}
use Rattle.bundle_merge_names.proofs.ModuleLemmas.{OfPart, modules-from, modules-to}
use Rattle.bundle_merge_names.proofs.LackLemmas.{refuses-like, some-refused}
use Rattle.bundle_merge_names.proofs.ScopeLemmas.{handed-on}
use Rattle.bundle_merge_names.proofs.SomeLemmas.{IsOfSome, some-first, some-next}
use Rattle.bundle_merge_names.proofs.LabelLemmas.{adds-like}
use Rattle.bundle_merge_names.proofs.RefusedLemmas.{part-written}
use Rattle.bundle_merge_names.proofs.given.give_modules.Goals as goal

pub loop-module-init : goal.loop-module-init
loop-module-init c = λ p list answers are. some-first p list (OfPart p (λ m. stands_written (answers m))) _ c.args.names.now refl

pub loop-module-preserved : goal.loop-module-preserved
loop-module-preserved c = λ p list answers are.
    let parts = c.args.bundle.now.parts.now in
    let i = c.loop-module.module in
    let part = c.part-item.result in
    let at = slice_get_read parts (length parts) i part refl c.loop-module-test.true c.part-item.is in
    some-next p list (OfPart p (λ m. stands_written (answers m))) parts i (i + 1) part c.args.names.now c.loop-module.names c.give_module.new.names at (omega arith)
    (c.loop-module.invariant p list answers are)
    (c.in_ok-give_module.ensures.given p list (λ m. stands_written (answers m)) are.linking are.handed are.modules ((are.reached i).1 c.loop-module-test.true) (are.parts i part at)
    (part-written p list answers c.args.bundle.now are i part at))

pub returns-clause-given : goal.returns-clause-given
returns-clause-given c = λ p list answers are.
    let parts = c.args.bundle.now.parts.now in
    adds-like p list (IsOfSome (OfPart p (λ m. stands_written (answers m))) parts) (IsGiven (λ m. stands_written (answers m)) (IsOfModules p)) c.args.names.now c.loop-module.names
    (modules-to p (λ m. stands_written (answers m)) parts are.reached) (modules-from p (λ m. stands_written (answers m)) parts are.reached)
    (subst (λ l. GivesNames p list (IsOfSome (OfPart p (λ m. stands_written (answers m))) l) c.args.names.now c.loop-module.names)
    (take-whole parts c.loop-module.module c.loop-module-test.false)
    (c.loop-module.invariant p list answers are))

pub returns-in_err-give_module-clause-refused : goal.returns-in_err-give_module-clause-refused
returns-in_err-give_module-clause-refused c = handed-on _ _ _ c.from_residual.ensures.1 (λ p list answers are.
    let parts = c.args.bundle.now.parts.now in
    let i = c.loop-module.module in
    let part = c.part-item.result in
    let refusal = c.in_err-give_module.field-0.0 in
    let at = slice_get_read parts (length parts) i part refl c.loop-module-test.true c.part-item.is in
    refuses-like (IsOfSome (OfPart p (λ m. stands_written (answers m))) parts) (IsGiven (λ m. stands_written (answers m)) (IsOfModules p)) c.args.names.now refusal
    (modules-to p (λ m. stands_written (answers m)) parts are.reached)
    (some-refused p list (OfPart p (λ m. stands_written (answers m))) parts i part c.args.names.now c.loop-module.names refusal at (c.loop-module.invariant p list answers are)
    (c.in_err-give_module.ensures.refused p list (λ m. stands_written (answers m)) are.linking are.handed are.modules ((are.reached i).1 c.loop-module-test.true) (are.parts i part at)
    (part-written p list answers c.args.bundle.now are i part at))))
