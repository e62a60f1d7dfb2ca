use Rattle.std.proofs.Common.{Bor, List, ℕ, ◌++◌, ◌-◌, map, drop, take, length, ap, ◌∙◌, sym}
use Rattle.std.proofs.lemmas.List.{drop-map, map-append}
use Rattle.gutsirava_path.specs.Normal.{first_parts}
use Rattle.gutsirava_path.proofs.Ways.{take-drop_all}
use Rattle.gutsirava_path.proofs.normal.way_parts.Goals as goal

pub returns : goal.returns
returns c =
    let now : Bor (List ℕ) → List ℕ = λ p. p.now in
    let to = c.args.to.now in
    let shared = c.args.shared in
    let rest = take (length to - shared) (drop shared to) in
    ap (map now) c.in_ok-extend_from_slice.ensures.items
    ∙ map-append now c.in_ok-way.way.items rest
    ∙ ap (λ parts. parts ++ map now rest) c.in_ok-way.ensures
    ∙ ap (λ parts. first_parts (c.args.from - shared) ++ map now parts) (take-drop_all shared to)
    ∙ ap (λ parts. first_parts (c.args.from - shared) ++ parts) (sym (drop-map now shared to))
