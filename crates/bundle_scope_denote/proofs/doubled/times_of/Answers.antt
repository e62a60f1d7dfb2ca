-- One declaration more is counted.
use Rattle.std.proofs.Common.{◌≡◌, ◌≤◌, ◌∙◌, ap, sym, length, arith}
use Rattle.std.specs.Prelude.{slice_get}
use Rattle.std.proofs.lemmas.Option.{slice_get-get_or}
use Rattle.bundle_scope_denote.proofs.TimesLemmas.{counted-first, counted-next, counted-whole}
use Rattle.bundle_scope_denote.proofs.doubled.times_of.Goals as goal

pub loop-declared-init : goal.loop-declared-init
loop-declared-init c = counted-first _ _

pub loop-declared-preserved : goal.loop-declared-preserved
loop-declared-preserved c =
    let same : c.deref-declared-items.result.now ≡ c.args.walk.now.declarations.items = c.deref-declared-items.ensures.value in
    counted-next c.args.walk.now.declarations.items c.loop-declared.declared-index _ c.loop-declared.times.items c.count.new.times.items (ap (λ l. slice_get l c.loop-declared.declared-index) (sym same) ∙ slice_get-get_or _ _ _ c.loop-declared-test.true) c.count.ensures c.loop-declared.invariant

pub returns : goal.returns
returns c =
    let same : c.deref-declared-items.result.now ≡ c.args.walk.now.declarations.items = c.deref-declared-items.ensures.value in
    let past : length c.args.walk.now.declarations.items ≤ c.loop-declared.declared-index = omega (arith, ap length same, c.loop-declared-test.false) in
    counted-whole c.args.walk.now.declarations.items c.loop-declared.declared-index c.loop-declared.times.items past c.loop-declared.invariant
