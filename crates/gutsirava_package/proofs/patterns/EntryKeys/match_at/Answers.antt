-- The key that stands there is the one that is looked at.
use Rattle.std.proofs.Common.{◌∙◌, ap, length, refl, slice_get, subst}
use Rattle.std.proofs.lemmas.Option.{same_Some}
use Rattle.gutsirava_package.specs.Patterns.{Fits, FitsNowhere}
use Rattle.gutsirava_package.proofs.patterns.EntryKeys.match_at.Goals as goal

pub returns-in-Some : goal.returns-in-Some
returns-in-Some c = λ key at.
    let same = same_Some c.in_ok-key.key.now key (c.in_ok-key.ensures ∙ (λ i. slice_get (c.self.view_is i) c.args.place) ∙ at) in
    record {
      place_is = refl;
      size_is = ap length same;
      fits = subst (λ k. Fits k c.in-Some.star.now c.args.text.now) same c.in-Some.ensures.fits;
    }

pub returns-in-None : goal.returns-in-None
returns-in-None c = λ key at.
    let same = same_Some c.in_ok-key.key.now key (c.in_ok-key.ensures ∙ (λ i. slice_get (c.self.view_is i) c.args.place) ∙ at) in
    subst (λ k. FitsNowhere k c.args.text.now) same (c.in-None.ensures.only refl)
