-- Each external that is gone over gets its names.
use Rattle.std.proofs.Common.{◌+◌, length, refl, subst, arith}
use Rattle.std.proofs.lemmas.Option.{slice_get_read}
use Rattle.bundle_scope_denote.proofs.LoopLemmas.{take-whole}
use Rattle.bundle_merge_names.specs.Added.{GivesNames, IsOfExternals}
use Rattle.bundle_merge_names.proofs.ModuleLemmas.{OfExternal, external-takable, externals-from, externals-to}
use Rattle.bundle_merge_names.proofs.LackLemmas.{refuses-like, some-refused}
use Rattle.bundle_merge_names.proofs.ScopeLemmas.{handed-on}
use Rattle.bundle_merge_names.proofs.SomeLemmas.{IsOfSome, some-first, some-next}
use Rattle.bundle_merge_names.proofs.LabelLemmas.{adds-like}
use Rattle.bundle_merge_names.proofs.given.give_externals.Goals as goal

pub loop-external-init : goal.loop-external-init
loop-external-init c = λ p list handed modules. some-first p list OfExternal _ c.args.names.now refl

pub loop-external-preserved : goal.loop-external-preserved
loop-external-preserved c = λ p list handed modules.
    let found = c.externals-external-items.result.now in
    let i = c.loop-external.external-index in
    let external = c.external-item.result in
    let at = slice_get_read found (length found) i external refl c.loop-external-test.true c.external-item.is in
    some-next p list OfExternal found i (i + 1) external c.args.names.now c.loop-external.names c.give_external.new.names at (omega arith)
    (c.loop-external.invariant p list handed modules)
    (c.in_ok-give_external.ensures.given p list handed (external-takable p modules list found (c.externals-external-items.ensures p list handed) i external at))

pub returns-clause-given : goal.returns-clause-given
returns-clause-given c = λ p list handed modules.
    let found = c.externals-external-items.result.now in
    let are = c.externals-external-items.ensures p list handed in
    adds-like p list (IsOfSome OfExternal found) (IsOfExternals p list) c.args.names.now c.loop-external.names
    (externals-to p modules list found are) (externals-from p modules list found are)
    (subst (λ l. GivesNames p list (IsOfSome OfExternal l) c.args.names.now c.loop-external.names)
    (take-whole found c.loop-external.external-index c.loop-external-test.false)
    (c.loop-external.invariant p list handed modules))

pub returns-in_err-give_external-clause-refused : goal.returns-in_err-give_external-clause-refused
returns-in_err-give_external-clause-refused c = handed-on _ _ _ c.from_residual.ensures.1 (λ p list handed modules.
    let found = c.externals-external-items.result.now in
    let i = c.loop-external.external-index in
    let external = c.external-item.result in
    let refusal = c.in_err-give_external.field-0.0 in
    let at = slice_get_read found (length found) i external refl c.loop-external-test.true c.external-item.is in
    let are = c.externals-external-items.ensures p list handed in
    refuses-like (IsOfSome OfExternal found) (IsOfExternals p list) c.args.names.now refusal (externals-to p modules list found are)
    (some-refused p list OfExternal found i external c.args.names.now c.loop-external.names refusal at (c.loop-external.invariant p list handed modules)
    (c.in_err-give_external.ensures.refused p list handed (external-takable p modules list found are i external at))))
