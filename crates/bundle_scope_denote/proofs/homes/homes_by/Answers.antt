-- Each declaration gone over has its home.
use Rattle.std.proofs.Common.{◌≡◌, ◌≤◌, ◌∙◌, List, ap, sym, subst, length, arith}
use Rattle.std.specs.Prelude.{slice_get}
use Rattle.std.proofs.lemmas.Option.{slice_get-get_or}
use Rattle.bundle_scope_denote.specs.declared.walk.Declaration.{Declaration}
use Rattle.bundle_scope_denote.specs.Ready.{AreHomesOf}
use Rattle.bundle_scope_denote.proofs.LoopLemmas.{homes-first, homes-step, take-whole}
use Rattle.bundle_scope_denote.proofs.homes.homes_by.Goals as goal

pub loop-declaration-init : goal.loop-declaration-init
loop-declaration-init c = homes-first _ _ _ c.in_ok-keys.ensures.empty c.in_ok-items.ensures.items c.in_ok-of.ensures.items

pub add-requires : goal.add-requires
add-requires c =
    let same : c.deref-declaration-items.result.now ≡ c.args.walk.now.declarations.items = c.deref-declaration-items.ensures.value in
    c.requires c.loop-declaration.declaration-index _ (ap (λ l. slice_get l c.loop-declaration.declaration-index) (sym same) ∙ slice_get-get_or _ _ _ c.loop-declaration-test.true)

pub loop-declaration-preserved : goal.loop-declaration-preserved
loop-declaration-preserved c =
    let same : c.deref-declaration-items.result.now ≡ c.args.walk.now.declarations.items = c.deref-declaration-items.ensures.value in
    homes-step c.args.walk.now c.args.parameters.now.keys c.loop-declaration.declaration-index _ c.loop-declaration.homes c.add.new.self (ap (λ l. slice_get l c.loop-declaration.declaration-index) (sym same) ∙ slice_get-get_or _ _ _ c.loop-declaration-test.true) c.in_ok-add.ensures c.loop-declaration.invariant

pub returns : goal.returns
returns c =
    let same : c.deref-declaration-items.result.now ≡ c.args.walk.now.declarations.items = c.deref-declaration-items.ensures.value in
    let past : length c.args.walk.now.declarations.items ≤ c.loop-declaration.declaration-index = omega (arith, ap length same, c.loop-declaration-test.false) in
    subst (λ (l : List Declaration). AreHomesOf c.args.walk.now c.args.parameters.now.keys l c.loop-declaration.homes) (take-whole c.args.walk.now.declarations.items c.loop-declaration.declaration-index past) c.loop-declaration.invariant
