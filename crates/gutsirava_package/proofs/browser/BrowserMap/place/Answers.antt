-- The place of a key among the keys is its place where it says something.
use Rattle.std.proofs.Common.{◌≡◌, ◌∙◌, List, None, Option, Some, ap, length, map, subst, sym}
use Rattle.std.proofs.lemmas.List.{length-map}
use Rattle.std.proofs.lemmas.Option.{none-some, same_Some}
use Rattle.gutsirava_package.specs.Browser.{Entry, IsPlaceIn, Replacing, replacing}
use Rattle.gutsirava_package.specs.Keys.{IsPlaceOf}
use Rattle.gutsirava_package.specs.declared.browser.BrowserReplacement.{BrowserReplacement}
use Rattle.gutsirava_package.proofs.BrowserLemmas.{place-nowhere, place-saying, place-silent}
use Rattle.gutsirava_package.proofs.browser.BrowserMap.place.Goals as goal

pub returns-in_err-place : goal.returns-in_err-place
returns-in_err-place c =
    let keys = c.self.inside.keys in
    let says = map replacing c.self.inside.replacements.items in
    let own : IsPlaceOf keys c.args.key.now None = subst (λ k. IsPlaceOf keys k None) c.as_bytes.ensures.value c.in_err-place.ensures in
    subst (λ r. IsPlaceIn c.args.self.now c.args.key.now r) (sym c.from_residual.ensures)
    (subst (λ (entries : List Entry). IsPlaceIn entries c.args.key.now None) c.self.view_is (place-nowhere keys says c.args.key.now own))

pub returns-in_err-replacement : goal.returns-in_err-replacement
returns-in_err-replacement c =
    let keys = c.self.inside.keys in
    let items = c.self.inside.replacements.items in
    let place = c.in_ok-place.place in
    let own : IsPlaceOf keys c.args.key.now (Some place) = subst (λ k. IsPlaceOf keys k (Some place)) c.as_bytes.ensures.value c.in_ok-place.ensures in
    subst (λ r. IsPlaceIn c.args.self.now c.args.key.now r) (sym c.from_residual-in_err-replacement.ensures)
    (place-silent keys (map replacing items) c.args.self.now c.args.key.now place (length-map items replacing ∙ sym c.self.inside.replacements.ok.0 ∙ c.self.invariant) c.self.view_is own
    None c.in_err-replacement.ensures (λ it never. none-some (Some it) never))

pub returns-in-Unknown : goal.returns-in-Unknown
returns-in-Unknown c =
    let keys = c.self.inside.keys in
    let items = c.self.inside.replacements.items in
    let place = c.in_ok-place.place in
    let own : IsPlaceOf keys c.args.key.now (Some place) = subst (λ k. IsPlaceOf keys k (Some place)) c.as_bytes.ensures.value c.in_ok-place.ensures in
    place-silent keys (map replacing items) c.args.self.now c.args.key.now place (length-map items replacing ∙ sym c.self.inside.replacements.ok.0 ∙ c.self.invariant) c.self.view_is own
    (Some None) (sym (ap (λ (r : BrowserReplacement). Some (replacing r)) c.in-Unknown.is) ∙ c.in_ok-replacement.ensures)
    (λ it never. none-some it (same_Some {A = Option Replacing} None (Some it) never))

pub returns-in-Empty : goal.returns-in-Empty
returns-in-Empty c =
    let keys = c.self.inside.keys in
    let items = c.self.inside.replacements.items in
    let place = c.in_ok-place.place in
    let own : IsPlaceOf keys c.args.key.now (Some place) = subst (λ k. IsPlaceOf keys k (Some place)) c.as_bytes.ensures.value c.in_ok-place.ensures in
    place-saying keys (map replacing items) c.args.self.now c.args.key.now place (length-map items replacing ∙ sym c.self.inside.replacements.ok.0 ∙ c.self.invariant) c.self.view_is own
    _ (sym (ap (λ (r : BrowserReplacement). Some (replacing r)) c.in-Empty.is) ∙ c.in_ok-replacement.ensures)

pub returns-in-Text : goal.returns-in-Text
returns-in-Text c =
    let keys = c.self.inside.keys in
    let items = c.self.inside.replacements.items in
    let place = c.in_ok-place.place in
    let own : IsPlaceOf keys c.args.key.now (Some place) = subst (λ k. IsPlaceOf keys k (Some place)) c.as_bytes.ensures.value c.in_ok-place.ensures in
    place-saying keys (map replacing items) c.args.self.now c.args.key.now place (length-map items replacing ∙ sym c.self.inside.replacements.ok.0 ∙ c.self.invariant) c.self.view_is own
    _ (sym (ap (λ (r : BrowserReplacement). Some (replacing r)) c.in-Text.is) ∙ c.in_ok-replacement.ensures)
