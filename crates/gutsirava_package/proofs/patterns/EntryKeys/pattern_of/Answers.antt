-- The key that the text is put together to is the only one that can fit so.
use Rattle.std.proofs.Common.{◌≡◌, ◌∙◌, Some, ap, slice_get, sym}
use Rattle.std.proofs.lemmas.Option.{none-some}
use Rattle.gutsirava_package.specs.Patterns.{starred}
use Rattle.gutsirava_package.proofs.PatternLemmas.{hit-by, none-by}
use Rattle.gutsirava_package.proofs.patterns.EntryKeys.pattern_of.Goals as goal

pub returns-in-Some : goal.returns-in-Some
returns-in-Some c =
    let keys = c.args.self.now in
    let key = c.in_ok-key.key.items in
    let is : key ≡ starred c.args.text.now c.args.base c.args.trailer = c.in_ok-key.ensures ∙ ap (λ t. starred t c.args.base c.args.trailer) c.as_bytes.ensures.value in
    let there : slice_get keys c.in-Some.place ≡ Some key =
    sym (λ i. slice_get (c.self.view_is i) c.in-Some.place) ∙ c.in-Some.ensures.0 ∙ ap Some c.as_slice.ensures.value in
    hit-by keys c.args.text.now c.args.base c.args.trailer key c.in-Some.place c.match_at.result c.requires is there (c.match_at.ensures key there)

pub returns : goal.returns
returns c =
    let key = c.in_ok-key.key.items in
    let is : key ≡ starred c.args.text.now c.args.base c.args.trailer = c.in_ok-key.ensures ∙ ap (λ t. starred t c.args.base c.args.trailer) c.as_bytes.ensures.value in
    none-by c.args.self.now c.args.text.now c.args.base c.args.trailer key is
    (λ at there. none-some at (c.in-None.ensures.1 at ((λ i. slice_get (c.self.view_is i) at) ∙ there ∙ ap Some (sym c.as_slice.ensures.value))))
