-- Each module that is gone over gets its contexts.
use Rattle.std.proofs.Common.{◌≡◌, ◌+◌, Some, ap, sym, length, refl, ◌∙◌, arith, subst}
use Rattle.std.proofs.lemmas.Option.{slice_get-get_or}
use Rattle.bundle_merge_names.specs.Inside.{AreScopesNamed}
use Rattle.bundle_merge_names.proofs.ModuleLemmas.{modules-first, modules-next, modules-refused}
use Rattle.bundle_merge_names.proofs.RefusedLemmas.{scopes-refused}
use Rattle.bundle_merge_names.proofs.ScopeLemmas.{handed-on}
use Rattle.bundle_merge_names.proofs.given.give_contexts.Goals as goal

pub loop-module-init : goal.loop-module-init
loop-module-init c = (λ nothing. modules-first c.args.bundle.now c.args.names.now _ nothing.locals nothing.scopes nothing.answered nothing.contexts refl, refl)

pub loop-module-preserved : goal.loop-module-preserved
loop-module-preserved c =
    let at = slice_get-get_or c.args.bundle.now.parts.now c.loop-module.module c.part-item.result c.loop-module-test.true ∙ ap (λ x. Some x) (sym c.part-item.is) in
    (λ nothing. modules-next c.args.bundle.now c.loop-module.names c.give_scopes.new.names c.loop-module.module (c.loop-module.module + 1) c.part-item.result at c.in_ok-give_scopes.ensures.given (omega arith) (c.loop-module.invariant.0 nothing), c.in_ok-give_scopes.ensures.given.labels ∙ c.loop-module.invariant.1)

pub returns-clause-scopes : goal.returns-clause-scopes
returns-clause-scopes c =
    let past = c.loop-module-test.false in
    let within = c.loop-module.auto.module-end in
    let all : c.loop-module.module ≡ length c.args.bundle.now.parts.now = omega (arith, past, within) in
    λ nothing. subst (AreScopesNamed c.args.bundle.now c.loop-module.names) all (c.loop-module.invariant.0 nothing)

pub returns-clause-labels : goal.returns-clause-labels
returns-clause-labels c = c.loop-module.invariant.1

pub returns-in_err-give_scopes-clause-refused : goal.returns-in_err-give_scopes-clause-refused
returns-in_err-give_scopes-clause-refused c =
    let at = slice_get-get_or c.args.bundle.now.parts.now c.loop-module.module c.part-item.result c.loop-module-test.true ∙ ap (λ x. Some x) (sym c.part-item.is) in
    handed-on _ _ _ c.from_residual.ensures.1 (λ nothing p list answers parts. scopes-refused p list answers c.args.bundle.now parts c.in_err-give_scopes.field-0.0 (modules-refused c.args.bundle.now c.loop-module.names c.loop-module.module c.part-item.result c.in_err-give_scopes.field-0.0 at c.in_err-give_scopes.ensures.refused (c.loop-module.invariant.0 nothing)))
