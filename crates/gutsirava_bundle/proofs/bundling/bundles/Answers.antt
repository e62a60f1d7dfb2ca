-- The hook behind its box gives nothing and fails nowhere.
use Rattle.std.proofs.Common.{◌≡◌, refl, ap, ◌∙◌}
use denote.Param.Object.{read_made}
use Rattle.gutsirava_bundle.specs.Parties.{gives_nothing, fails_nowhere}
use Rattle.gutsirava_bundle.proofs.Answering.{linked_as}
use Rattle.gutsirava_bundle.proofs.bundling.bundles.OwnLists.{own-1, at-1-1}
use Rattle.gutsirava_bundle.proofs.bundling.bundles.Goals as goal
use Rattle.gutsirava_bundle.proofs.bundling.bundles.Goals.{After-linked-told}

gives : (c : After-linked-told)
    → (own-1.entry c.into_dyn_box.result.vtable).1.may_give c.into_dyn_box.result.value ≡ gives_nothing
gives c =
    read_made own-1 (own-1.entry at-1-1) at-1-1 refl _ (λ j hook. j.1.may_give hook) _ _ c.in_ok-hook.hook.value c.into_dyn_box.ensures.1

fails : (c : After-linked-told)
    → (own-1.entry c.into_dyn_box.result.vtable).1.may_fail_hook c.into_dyn_box.result.value ≡ fails_nowhere
fails c =
    read_made own-1 (own-1.entry at-1-1) at-1-1 refl _ (λ j hook. j.1.may_fail_hook hook) _ _ c.in_ok-hook.hook.value c.into_dyn_box.ensures.1

pub returns : goal.returns
returns c =
    linked_as _ _ _ _ _ _ _ _ _ _ (gives c) (fails c) c.in_ok-config.ensures (ap (λ it. it.items) c.take.ensures) c.linked-told.ensures
