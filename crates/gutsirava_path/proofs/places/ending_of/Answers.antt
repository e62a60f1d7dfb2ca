-- The ending begins with the last `.`.
use Rattle.std.proofs.Common.{◌≡◌, [], true, false, not, eqb, cond, ◌||◌, drop, Some, None, lit<, ap, sym, ◌∙◌, arith}
use Rattle.std.proofs.lemmas.Bool.{eq-eqb, not-true, not-false}
use Rattle.std.proofs.lemmas.Str.Pattern.{rfind_char}
use Rattle.std.specs.Str.{bytes_eq}
use Rattle.gutsirava_path.specs.Normal.{up}
use Rattle.gutsirava_path.proofs.LastLemmas.{ending_of-found, or_true, positive}
use Rattle.gutsirava_path.proofs.places.ending_of.Goals as goal
use Rattle.gutsirava_path.proofs.places.ending_of.Goals.{else-at-gt0-via-then-at-gt0+else-ne, else-at-gt0-via-else-at-gt0}

pub returns-then-ne : goal.returns-then-ne
returns-then-ne c =
    let name = c.args.name.now in
    let at = c.in-Some.at in
    let told = ending_of-found name (Some at) (rfind_char 46 name (Some at) c.in-Some.ensures.cases (lit< tt)) in
    let differs : not (bytes_eq name up) ≡ true = cc in
    let other : bytes_eq name up ≡ false = not-true (bytes_eq name up) differs in
    c.split_at.ensures.back
    ∙ sym (told ∙ ap (λ b. cond (b || bytes_eq name up) [] (drop at name)) (positive at c.if-at-gt0.true)
    ∙ ap (λ b. cond b [] (drop at name)) other)

pub returns-else-at-gt0 : goal.returns-else-at-gt0
returns-else-at-gt0 c =
    let name = c.args.name.now in
    let at = c.in-Some.at in
    let told = ending_of-found name (Some at) (rfind_char 46 name (Some at) c.in-Some.ensures.cases (lit< tt)) in
    let none : (eqb at 0 || bytes_eq name up) ≡ true = elim c.else-at-gt0.branch [
      | else-at-gt0-via-then-at-gt0+else-ne w ↦
          let alike : not (bytes_eq name up) ≡ false = cc in
          or_true (eqb at 0) (bytes_eq name up) (not-false (bytes_eq name up) alike)
      | else-at-gt0-via-else-at-gt0 w ↦ ap (λ b. b || bytes_eq name up) (eq-eqb at 0 (omega arith))
    ] in
    sym (told ∙ ap (λ b. cond b [] (drop at name)) none)

pub returns-in-None : goal.returns-in-None
returns-in-None c =
    let name = c.args.name.now in
    sym (ending_of-found name None (rfind_char 46 name None c.in-None.ensures.cases (lit< tt)))
