-- The nearest of the options so far.
use Rattle.std.proofs.Common.{◌≡◌, ◌<◌, ◌≤◌, ◌+◌, ◌-◌, ◌/◌, ◌^◌, ◌++◌, ℕ, List, [], ◌∷◌, Option, Some, None, All, Contains, length, arith, refl, subst, ◌⊎◌, inl, inr, Bor, map, take, get_or, lit<}
use Rattle.std.proofs.lemmas.Grind.{common_steps}
use Rattle.std.specs.Option.{option_map}
use Rattle.std.proofs.lemmas.List.Elements.{All-append, All-cons, Contains-append_left, Contains-append_right}
use Rattle.gutsirava_words.specs.Nearest.{edits, IsAnswer, IsNear, IsNearest}

-- the nearest so far, with its edits; where there is none, these are more than any option is long
abbrev pub IsSoFar : List ℕ → List (List ℕ) → ℕ → Option (List ℕ) → Type 0
IsSoFar name seen fewest None = (fewest ≡ 2 ^ 64 - 1) × All (λ other. ¬ IsNear name other) seen
IsSoFar name seen fewest (Some option) = (fewest ≡ edits name option) × IsNearest name option seen

-- of one more, too
all_more : (P : List ℕ → Type 0) (seen : List (List ℕ)) (option : List ℕ) → All P seen → P option
    → All P (seen ++ option ∷ [])
all_more P seen option all one =
    All-append P seen (option ∷ []) all (All-cons P option [] one (λ k d lt. absurd (omega arith)))

-- the last of them is there
there_last : (seen : List (List ℕ)) (option : List ℕ) → Contains (seen ++ option ∷ []) option
there_last seen option = Contains-append_right seen (option ∷ []) option (0, lit< tt, refl)

-- what is farther than another, or not near, changes nothing
pub so_far_farther : (name : List ℕ) (seen : List (List ℕ)) (fewest : ℕ) (best : Option (List ℕ)) (option : List ℕ)
    → length option < 2 ^ 64 → IsSoFar name seen fewest best
    → (edits name option ≤ length option / 3 → fewest ≤ edits name option)
    → IsSoFar name (seen ++ option ∷ []) fewest best
so_far_farther name seen fewest None option short so_far far = (
  so_far.0,
  all_more (λ other. ¬ IsNear name other) seen option so_far.1
      (λ near. omega (arith, so_far.0, far near, near, short)),
)
so_far_farther name seen fewest (Some best) option short so_far far = (
  so_far.0,
  record {
    known = Contains-append_left seen (option ∷ []) best so_far.1.known;
    near = so_far.1.near;
    least = all_more (λ other. IsNear name other → edits name best ≤ edits name other) seen option
        so_far.1.least (λ near. omega (arith, so_far.0, far near));
  },
)

-- nothing was near, or nothing as near: so the next is the nearest
closer_than : (name : List ℕ) (seen : List (List ℕ)) (fewest : ℕ) (best : Option (List ℕ)) (option : List ℕ)
    → IsSoFar name seen fewest best → edits name option < fewest
    → All (λ other. IsNear name other → edits name option ≤ edits name other) seen
closer_than name seen fewest None option so_far closer k d lt near = absurd (so_far.1 k d lt near)
closer_than name seen fewest (Some best) option so_far closer k d lt near =
    omega (arith, so_far.0, so_far.1.least k d lt near, closer)

pub so_far_closer : (name : List ℕ) (seen : List (List ℕ)) (fewest : ℕ) (best : Option (List ℕ)) (option : List ℕ)
    → IsSoFar name seen fewest best → edits name option < fewest
    → edits name option ≤ length option / 3
    → IsSoFar name (seen ++ option ∷ []) (edits name option) (Some option)
so_far_closer name seen fewest best option so_far closer near = (
  refl,
  record {
    known = there_last seen option;
    near = near;
    least = all_more (λ other. IsNear name other → edits name option ≤ edits name other) seen option
        (closer_than name seen fewest best option so_far closer) (λ _. omega arith);
  },
)

-- the nearest so far is that of all, at the end
pub answer_of : (name : List ℕ) (all : List (List ℕ)) (fewest : ℕ) (best : Option (List ℕ))
    → IsSoFar name all fewest best → IsAnswer name all best
answer_of name all fewest None so_far = so_far.1
answer_of name all fewest (Some best) so_far = so_far.1

-- one more is seen
seen_more : (all : List (Bor (List ℕ))) (at : ℕ) (d : Bor (List ℕ)) → at < length all
    → map (λ option. option.now) (take (at + 1) all)
    ≡ map (λ option. option.now) (take at all) ++ (get_or all at d).now ∷ []
seen_more all at d lt = grind (arith, common_steps)

-- the step of a loop over options
pub so_far_next : (name : List ℕ) (all : List (Bor (List ℕ))) (at : ℕ) (d : Bor (List ℕ)) (fewest new_fewest count : ℕ)
    (best new_best : Option (Bor (List ℕ))) → at < length all → length (get_or all at d).now < 2 ^ 64
    → count ≡ edits name (get_or all at d).now
    → IsSoFar name (map (λ option. option.now) (take at all)) fewest (option_map (λ option. option.now) best)
    → ((count < fewest) × (count ≤ length (get_or all at d).now / 3) × (new_best ≡ Some (get_or all at d)) × (new_fewest ≡ count))
    ⊎ ((count ≤ length (get_or all at d).now / 3 → fewest ≤ count) × (new_best ≡ best) × (new_fewest ≡ fewest))
    → IsSoFar name (map (λ option. option.now) (take (at + 1) all)) new_fewest (option_map (λ option. option.now) new_best)
so_far_next name all at d fewest new_fewest count best new_best lt short counted so_far (inl closer) =
    rw (closer.2, closer.3, counted, seen_more all at d lt)
    (so_far_closer name (map (λ option. option.now) (take at all)) fewest (option_map (λ option. option.now) best)
    (get_or all at d).now so_far (subst (λ (n : ℕ). n < fewest) counted closer.0)
    (subst (λ (n : ℕ). n ≤ length (get_or all at d).now / 3) counted closer.1))
so_far_next name all at d fewest new_fewest count best new_best lt short counted so_far (inr farther) =
    rw (farther.1, farther.2, seen_more all at d lt)
    (so_far_farther name (map (λ option. option.now) (take at all)) fewest (option_map (λ option. option.now) best)
    (get_or all at d).now short so_far
    (subst (λ (n : ℕ). n ≤ length (get_or all at d).now / 3 → fewest ≤ n) counted farther.0))
