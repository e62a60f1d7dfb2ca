-- The nearest of one option more, and of all at the end.
use Rattle.std.proofs.Common.{◌≡◌, true, false, MatchBool, refl, arith, subst, inl, inr, map, take, List, ℕ, Bor}
use Rattle.std.specs.Option.{option_map}
use Rattle.std.specs.Bool.{OnFalse, OnTrue}
use Rattle.std.proofs.lemmas.List.{take_all}
use Rattle.gutsirava_words.proofs.NearestLemmas.{answer_of, so_far_next, IsSoFar}
use Rattle.gutsirava_words.proofs.nearest.nearest_of.Goals as goal
use Rattle.gutsirava_words.proofs.nearest.nearest_of.Goals.{then-is_closer, else-is_closer}

pub loop-option-init : goal.loop-option-init
loop-option-init c = (refl, λ k d lt near. absurd (omega arith))

pub loop-option-preserved : goal.loop-option-preserved
loop-option-preserved c =
    so_far_next c.args.name.now c.args.options.now c.loop-option.option-index _ c.loop-option.fewest
    c.if-is_closer.fewest c.in_ok-edits.edits c.loop-option.nearest c.if-is_closer.nearest
    c.loop-option-test.true c.is_closer.ensures.short c.in_ok-edits.ensures c.loop-option.invariant
    (elim c.if-is_closer.branch [
      | then-is_closer w ↦ let both = rw w.if-is_closer.true at c.is_closer.ensures.closer in
          inl (both.0, both.1, w.nearest-is, w.fewest-is)
      | else-is_closer w ↦ let far = rw w.if-is_closer.false at c.is_closer.ensures.farther in
          inr (far, w.nearest-is, w.fewest-is)
    ])

pub returns : goal.returns
returns c =
    answer_of c.args.name.now (map (λ option. option.now) c.args.options.now) c.loop-option.fewest
    (option_map (λ option. option.now) c.loop-option.nearest)
    (subst (λ (seen : List (Bor (List ℕ))). IsSoFar c.args.name.now (map (λ option. option.now) seen)
    c.loop-option.fewest (option_map (λ option. option.now) c.loop-option.nearest))
    (take_all c.loop-option.option-index c.args.options.now c.loop-option-test.false) c.loop-option.invariant)
