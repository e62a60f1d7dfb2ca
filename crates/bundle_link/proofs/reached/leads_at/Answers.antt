use Rattle.std.proofs.Common.{◌+◌, ℕ, List, [], ◌∷◌, ◌++◌, get_or, sym, subst, take}
use Rattle.std.specs.List.{AllZip}
use Rattle.std.proofs.lemmas.List.{take_more}
use Rattle.std.proofs.lemmas.Slice.Zip.{all_zipped_more}
use Rattle.bundle_link.specs.Reached.{LeadsBy}
use Rattle.bundle_link.proofs.reached.leads_at.Goals as goal

pub loop-place-preserved : goal.loop-place-preserved
loop-place-preserved c =
    let places = c.args.places.now in
    let i = c.loop-place.place-index in
    let place = get_or places i 0 in
    let done = c.loop-place.leads.items in
    let leads = c.in_ok-leads_from.field-0 in
    let by = LeadsBy c.args.files.now.deps.now c.args.ids.now.keys in
    let more = take_more places i 0 c.loop-place-test.true in
    subst (λ all. AllZip by (take (i + 1) places) all) (sym c.in_ok-push.ensures.items)
    (subst (λ (l : List ℕ). AllZip by l (done ++ leads ∷ [])) (sym more)
    (all_zipped_more by (take i places) done place leads c.loop-place.invariant c.in_ok-leads_from.ensures))
