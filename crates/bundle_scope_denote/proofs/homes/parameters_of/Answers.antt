-- Each declaration gone over adds its key, if it is a parameter's.
use Rattle.std.proofs.Common.{◌≡◌, ◌<◌, ◌∙◌, ap, sym, length, arith}
use Rattle.std.specs.Prelude.{slice_get}
use Rattle.std.proofs.lemmas.Option.{slice_get-get_or}
use Rattle.bundle_scope_denote.proofs.LoopLemmas.{parameters-next}
use Rattle.bundle_scope_denote.proofs.homes.parameters_of.Goals as goal

pub loop-declaration-preserved : goal.loop-declaration-preserved
loop-declaration-preserved c =
    let same : c.deref-declaration-items.result.now ≡ c.args.walk.now.declarations.items = cc in
    let within : c.loop-declaration.declaration-index < length c.deref-declaration-items.result.now = omega arith in
    parameters-next c.args.walk.now.scopes.items c.deref.result.now c.deref-in-loop-declaration.result.now c.args.walk.now.top c.args.walk.now.declarations.items c.loop-declaration.declaration-index _ c.taker_of.result c.unwrap_or-taker.result _ _ (ap (λ l. slice_get l c.loop-declaration.declaration-index) (sym same) ∙ slice_get-get_or _ _ _ within) c.deref.ensures.value c.deref-in-loop-declaration.ensures.value c.taker_of.ensures c.unwrap_or-taker.ensures c.in_ok-put_parameter.ensures c.loop-declaration.invariant
