-- What stands before a `*` is written, and what that stands for.
use Rattle.std.proofs.Common.{◌≡◌, ◌++◌, ◌∙◌, List, None, Some, ap, lit<, rules, string_bytes, ℕ}
use Rattle.std.proofs.lemmas.Str.Pattern.{split_parts}
use Rattle.gutsirava_package.proofs.StarLemmas.{star-end, star-step}
use Rattle.gutsirava_package.proofs.lookup.with_star.Goals as goal

pub loop-front-preserved : goal.loop-front-preserved
loop-front-preserved c =
    let star = c.args.star.now in
    let rest = c.loop-front.rest.now in
    let parts = split_parts 42 rest (Some (c.in-Some.front, c.in-Some.behind)) c.in-Some.ensures.cases (lit< tt) in (
      search rules,
      star-step star c.args.text.now rest c.in-Some.front.now c.in-Some.behind.now (string_bytes c.loop-front.whole) (string_bytes c.push_str-in-Some.new.self) c.loop-front.invariant.1 parts.0
          parts.1 (c.in_ok-push_str-2.ensures.bytes ∙ ap (λ (l : List ℕ). l ++ star) c.in_ok-push_str.ensures.bytes),
    )

pub returns : goal.returns
returns c =
    let star = c.args.star.now in
    let rest = c.loop-front.rest.now in
    let none = split_parts 42 rest None c.in_default.ensures.cases (lit< tt) in
    star-end star c.args.text.now rest (string_bytes c.loop-front.whole) (string_bytes c.push_str-2.new.self) c.loop-front.invariant.1 none c.in_ok-push_str-3.ensures.bytes
