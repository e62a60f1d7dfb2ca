-- By the first character.
use Rattle.std.proofs.Common.{◌≡◌, ◌∙◌, chars, ℕ, false, List, Option, MatchOption, ap, slice_get, subst}
use Rattle.gutsirava_words.specs.Variable as names
use Rattle.gutsirava_words.proofs.NameLemmas.{name_by}
use Rattle.gutsirava_words.proofs.name.is_name.Goals as goal

pub returns-then-is_some_and : goal.returns-then-is_some_and
returns-then-is_some_and c =
    let is = name_by (chars c.args.text.now) c.is_some_and.result
    (subst (λ (first : Option ℕ). MatchOption first (c.is_some_and.result ≡ false)
    (λ it. c.is_some_and.result ≡ names.begins_name it)) (c.next.ensures.steps.2 ∙ ap (λ (t : List ℕ). slice_get (chars t) 0) c.chars.ensures.rest)
    c.is_some_and.ensures) in
    c.are_parts.ensures ∙ rw c.if-is_some_and.true at is
