-- Each CommonJS module that is gone over gets names for what is taken of it.
use Rattle.std.proofs.Common.{◌+◌, length, refl, subst, arith}
use Rattle.std.proofs.lemmas.Option.{slice_get_read}
use Rattle.bundle_scope_denote.proofs.LoopLemmas.{take-whole}
use Rattle.bundle_merge_names.specs.Added.{GivesNames, IsOfLoads}
use Rattle.bundle_merge_names.proofs.ModuleLemmas.{OfLoaded, loaded-takable, loads-from, loads-to}
use Rattle.bundle_merge_names.proofs.LackLemmas.{refuses-like, some-refused}
use Rattle.bundle_merge_names.proofs.ScopeLemmas.{handed-on}
use Rattle.bundle_merge_names.proofs.SomeLemmas.{IsOfSome, some-first, some-next}
use Rattle.bundle_merge_names.proofs.LabelLemmas.{adds-like}
use Rattle.bundle_merge_names.proofs.given.give_loads.Goals as goal

pub loop-loaded-init : goal.loop-loaded-init
loop-loaded-init c = λ p list handed modules reached. some-first p list (OfLoaded c.args.which) _ c.args.names.now refl

pub loop-loaded-preserved : goal.loop-loaded-preserved
loop-loaded-preserved c = λ p list handed modules reached.
    let k = c.args.which in
    let loads = c.loads-loaded-items.result.now in
    let i = c.loop-loaded.loaded-index in
    let loaded = c.loaded-item.result in
    let at = slice_get_read loads (length loads) i loaded refl c.loop-loaded-test.true c.loaded-item.is in
    some-next p list (OfLoaded k) loads i (i + 1) loaded c.args.names.now c.loop-loaded.names c.give_loaded.new.names at (omega arith)
    (c.loop-loaded.invariant p list handed modules reached)
    (c.in_ok-give_loaded.ensures.given p list handed (loaded-takable p modules k loads (c.loads-loaded-items.ensures p list handed reached) reached i loaded at))

pub returns-clause-given : goal.returns-clause-given
returns-clause-given c = λ p list handed modules reached.
    let k = c.args.which in
    let loads = c.loads-loaded-items.result.now in
    let are = c.loads-loaded-items.ensures p list handed reached in
    adds-like p list (IsOfSome (OfLoaded k) loads) (IsOfLoads p k) c.args.names.now c.loop-loaded.names
    (loads-to p modules k loads are) (loads-from p modules k loads are)
    (subst (λ l. GivesNames p list (IsOfSome (OfLoaded k) l) c.args.names.now c.loop-loaded.names)
    (take-whole loads c.loop-loaded.loaded-index c.loop-loaded-test.false)
    (c.loop-loaded.invariant p list handed modules reached))

pub returns-in_err-give_loaded-clause-refused : goal.returns-in_err-give_loaded-clause-refused
returns-in_err-give_loaded-clause-refused c = handed-on _ _ _ c.from_residual.ensures.1 (λ p list handed modules reached.
    let k = c.args.which in
    let loads = c.loads-loaded-items.result.now in
    let i = c.loop-loaded.loaded-index in
    let loaded = c.loaded-item.result in
    let refusal = c.in_err-give_loaded.field-0.0 in
    let at = slice_get_read loads (length loads) i loaded refl c.loop-loaded-test.true c.loaded-item.is in
    let are = c.loads-loaded-items.ensures p list handed reached in
    refuses-like (IsOfSome (OfLoaded k) loads) (IsOfLoads p k) c.args.names.now refusal (loads-to p modules k loads are)
    (some-refused p list (OfLoaded k) loads i loaded c.args.names.now c.loop-loaded.names refusal at (c.loop-loaded.invariant p list handed modules reached)
    (c.in_err-give_loaded.ensures.refused p list handed (loaded-takable p modules k loads are reached i loaded at))))
