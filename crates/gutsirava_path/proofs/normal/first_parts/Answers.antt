use Rattle.std.proofs.Common.{Bor, List, ℕ, map, ap, sym, ◌∙◌, arith}
use Rattle.gutsirava_path.proofs.Ways.{first_parts-some, map-replicate}
use Rattle.gutsirava_path.proofs.normal.first_parts.Goals as goal

pub returns : goal.returns
returns c =
    let now : Bor (List ℕ) → List ℕ = λ p. p.now in
    ap (map now) (c.in_ok-ups.ensures.items_if_clones_equal (λ y e. e))
    ∙ map-replicate now c.args.count _
    ∙ sym (first_parts-some c.args.count (omega arith))
