-- What stands round the first `*` are the parts, unless there is another one.
use Rattle.std.proofs.Common.{◌≡◌, ◌∙◌, Bool, List, None, Some, Bor, cond, false, lit<, not, refl, sym, ap, true, ℕ}
use Rattle.std.specs.Bool.{then_some}
use Rattle.std.specs.List.{list_any}
use Rattle.std.specs.Option.{option_map}
use Rattle.gutsirava_package.specs.Patterns.{is_star}
use Rattle.gutsirava_package.proofs.PatternLemmas.{parts-found, parts-none}
use Rattle.gutsirava_package.proofs.patterns.pattern_parts.Goals as goal

abbrev said : Bor (List ℕ) × Bor (List ℕ) → List ℕ × List ℕ
said its = (its.0.now, its.1.now)

either : (more : Bool) (its : Bor (List ℕ) × Bor (List ℕ)) → option_map (λ (own : Bor (List ℕ) × Bor (List ℕ)). (own.0.now, own.1.now)) (then_some (not more) its)
    ≡ cond more None (Some (said its))
either true its = refl
either false its = refl

pub returns-in-Some : goal.returns-in-Some
returns-in-Some c =
    let found = c.in-Some.ensures.byte (lit< tt) (λ w o h. h) in
    let any : c.contains-is_pattern.result ≡ list_any is_star c.in-Some.trailer.now = c.contains-is_pattern.ensures.value ∙ ap (list_any is_star) c.as_bytes.ensures.value in
    ap (option_map (λ (its : Bor (List ℕ) × Bor (List ℕ)). (its.0.now, its.1.now))) c.then_some.ensures ∙ either c.contains-is_pattern.result (c.in-Some.base, c.in-Some.trailer)
    ∙ sym (parts-found c.args.key.now c.in-Some.base.now c.in-Some.trailer.now c.contains-is_pattern.result found.0 found.1 found.2 any)

pub returns-in-None : goal.returns-in-None
returns-in-None c = sym (parts-none c.args.key.now (c.in-None.ensures.byte (lit< tt) (λ w o h. h)))
