use Rattle.std.proofs.Common.{◌+◌, List, [], ◌∷◌, ◌++◌, ap, sym, ◌∙◌, subst, take}
use Rattle.std.specs.List.{AllZip}
use Rattle.std.proofs.lemmas.List.{take_more}
use Rattle.std.proofs.lemmas.Slice.Zip.{all_zipped_more}
use Rattle.bundle_link.specs.Numbered.{IsPlacedBy}
use Rattle.bundle_link.specs.declared.module.NumberedModule.{NumberedModule}
use Rattle.bundle_link.proofs.module.leads_of_all.Goals as goal

pub loop-module-preserved : goal.loop-module-preserved
loop-module-preserved c =
    let modules = c.args.modules.now in
    let i = c.loop-module.module-index in
    let its = c.module-item.result in
    let done = c.loop-module.leads.items in
    let leads = c.in_ok-leads_of.field-0 in
    let more = take_more modules i its c.loop-module-test.true ∙ ap (λ (y : NumberedModule). take i modules ++ y ∷ []) (sym c.module-item.is) in
    subst (λ all. AllZip (IsPlacedBy c.args.ids.now.keys) (take (i + 1) modules) all) (sym c.in_ok-push.ensures.items)
    (subst (λ (l : List NumberedModule). AllZip (IsPlacedBy c.args.ids.now.keys) l (done ++ leads ∷ [])) (sym more)
    (all_zipped_more (IsPlacedBy c.args.ids.now.keys) (take i modules) done its leads c.loop-module.invariant c.in_ok-leads_of.ensures))
