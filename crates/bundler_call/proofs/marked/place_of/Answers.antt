-- A text stands where it stood, or last.
use Rattle.std.proofs.Common.{[], ◌∷◌, ◌∙◌, ap, slice_get, sym}
use Rattle.std.proofs.lemmas.Slice.Eq.{bytes_eq-Decides}
use Rattle.bundler_call.specs.Hashed.{same_text}
use Rattle.bundler_call.proofs.Holding.{found_at, stands_last, stood_before}
use Rattle.bundler_call.proofs.marked.place_of.Goals as goal

pub returns-in-Some-clause-there : goal.returns-in-Some-clause-there
returns-in-Some-clause-there c =
    let its = found_at (same_text c.args.text.now) c.args.texts.now c.in-Some.place c.args.text.now (sym c.in-Some.ensures.place) in
    (its.0, its.1, sym ((bytes_eq-Decides _ _).0 its.2))

pub returns-in_ok-add-in-None-clause-there : goal.returns-in_ok-add-in-None-clause-there
returns-in_ok-add-in-None-clause-there c =
    let its = c.in_ok-add-in-None.ensures.added in
    (its.0, (λ j. slice_get (its.2 j) (c.len-place.ensures j)) ∙ stands_last c.args.texts.now its.0, its.1)

pub returns-in_ok-add-in-None-clause-stays : goal.returns-in_ok-add-in-None-clause-stays
returns-in_ok-add-in-None-clause-stays c = λ place own at.
    let its = c.in_ok-add-in-None.ensures.added in
    ap (λ l. slice_get l place) its.2 ∙ stood_before c.args.texts.now (its.0 ∷ []) place own at
