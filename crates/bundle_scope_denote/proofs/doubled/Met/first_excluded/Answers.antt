-- Each declaration gone over is met.
use Rattle.std.proofs.Common.{◌≡◌, ◌≤◌, ◌∙◌, ap, sym, length, arith}
use Rattle.std.specs.Prelude.{slice_get}
use Rattle.std.proofs.lemmas.Option.{slice_get-get_or}
use Rattle.bundle_scope_denote.specs.Barred.{is_often}
use Rattle.bundle_scope_denote.proofs.DoubledLemmas.{meets-none, meets-next, meets-past, tells-doubled, tells-none}
use Rattle.bundle_scope_denote.proofs.doubled.Met.first_excluded.Goals as goal

pub loop-declaration-init : goal.loop-declaration-init
loop-declaration-init c = λ kind items whole. meets-none c.args.walk.now (is_often c.args.times.now) _ c.args.self.now c.requires.taken c.requires.barred

pub doubled_at-requires : goal.doubled_at-requires
doubled_at-requires c =
    let same : c.deref-declaration-items.result.now ≡ c.args.walk.now.declarations.items = c.deref-declaration-items.ensures.value in
    c.requires.named c.loop-declaration.declaration-index _ (ap (λ l. slice_get l c.loop-declaration.declaration-index) (sym same) ∙ slice_get-get_or _ _ _ c.loop-declaration-test.true)

pub returns-then-excludes : goal.returns-then-excludes
returns-then-excludes c =
    let same : c.deref-declaration-items.result.now ≡ c.args.walk.now.declarations.items = c.deref-declaration-items.ensures.value in
    λ kind items whole. tells-doubled c.args.walk.now (is_often c.args.times.now) kind items c.loop-declaration.self c.loop-declaration.declaration-index _ c.in_ok-reach.reach c.doubled_at.result whole (ap (λ l. slice_get l c.loop-declaration.declaration-index) (sym same) ∙ slice_get-get_or _ _ _ c.loop-declaration-test.true) c.in_ok-reach.ensures (sym c.is_often.ensures ∙ c.if-not-is_often.false) (c.loop-declaration.invariant kind items whole) (sym c.excludes.ensures ∙ c.if-excludes.true) c.doubled_at.ensures

pub loop-declaration-preserved-then-not-is_often : goal.loop-declaration-preserved-then-not-is_often
loop-declaration-preserved-then-not-is_often c =
    let same : c.deref-declaration-items.result.now ≡ c.args.walk.now.declarations.items = c.deref-declaration-items.ensures.value in
    λ kind items whole. meets-past c.args.walk.now c.args.times.now kind items c.loop-declaration.self c.loop-declaration.declaration-index _ c.requires.counted whole (ap (λ l. slice_get l c.loop-declaration.declaration-index) (sym same) ∙ slice_get-get_or _ _ _ c.loop-declaration-test.true) (sym c.is_often.ensures ∙ c.if-not-is_often.true) (c.loop-declaration.invariant kind items whole)

pub loop-declaration-preserved : goal.loop-declaration-preserved
loop-declaration-preserved c =
    let same : c.deref-declaration-items.result.now ≡ c.args.walk.now.declarations.items = c.deref-declaration-items.ensures.value in
    λ kind items whole. meets-next c.args.walk.now (is_often c.args.times.now) kind items c.loop-declaration.self c.add.new.self c.loop-declaration.declaration-index _ c.in_ok-reach.reach whole (ap (λ l. slice_get l c.loop-declaration.declaration-index) (sym same) ∙ slice_get-get_or _ _ _ c.loop-declaration-test.true) c.in_ok-reach.ensures (sym c.is_often.ensures ∙ c.if-not-is_often.false) (sym c.excludes.ensures ∙ c.if-excludes.false) c.in_ok-add.ensures.taken c.in_ok-add.ensures.barred (c.loop-declaration.invariant kind items whole)

pub returns : goal.returns
returns c =
    let same : c.deref-declaration-items.result.now ≡ c.args.walk.now.declarations.items = c.deref-declaration-items.ensures.value in
    let past : length c.args.walk.now.declarations.items ≤ c.loop-declaration.declaration-index = omega (arith, ap length same, c.loop-declaration-test.false) in
    λ kind items whole. tells-none c.args.walk.now (is_often c.args.times.now) kind items c.loop-declaration.self c.loop-declaration.declaration-index whole past (c.loop-declaration.invariant kind items whole)
