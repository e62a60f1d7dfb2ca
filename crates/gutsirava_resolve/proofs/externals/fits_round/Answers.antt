-- What stands behind the front is what is left of the text.
use Rattle.std.proofs.Common.{◌≡◌, ◌&&◌, true, false, eqb, drop, length, ap, subst, sym, ◌∙◌}
use Rattle.std.proofs.lemmas.Str.Pattern.{starts_text}
use Rattle.std.specs.List.{ends_with, starts_with}
use Rattle.std.specs.Str.{IsCharBoundary}
use Rattle.gutsirava_resolve.proofs.externals.fits_round.Goals as goal

pub returns-in-None : goal.returns-in-None
returns-in-None c =
    let text = c.args.text.now in
    let front = c.args.front.now in
    ap (λ b. b && ends_with eqb (drop (length front) text) c.args.back.now) (starts_text false front text c.in-None.ensures.cases)

pub returns-in-Some : goal.returns-in-Some
returns-in-Some c =
    let text = c.args.text.now in
    let front = c.args.front.now in
    let back = c.args.back.now in
    let told = c.in-Some.ensures.cases in
    let found = told.1 in
    let begins : true ≡ starts_with eqb text front
    = starts_text true front text (told.0, found, subst (IsCharBoundary text) (sym found.0) found.2) in
    c.ends_in.ensures
    ∙ ap (λ rest. ends_with eqb rest back) (told.2 ∙ ap (λ n. drop n text) found.0)
    ∙ ap (λ b. b && ends_with eqb (drop (length front) text) back) begins
