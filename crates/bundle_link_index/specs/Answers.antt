-- What is kept of the values that are given for a name: at most two.
use Rattle.std.specs.Prelude.{◌≡◌, ℕ, ◌==◌, Bool, true, false, if◌then◌else◌}
use Rattle.bundle_link_index.specs.declared.answer.Candidates.{Candidates}
use Rattle.bundle_link_index.specs.declared.answer.Candidates.TheVariants.{Missing, One, Two}

-- one more value; a third is not kept
abbrev pub with_more : Candidates → ℕ → Candidates
with_more Missing v = One v
with_more (One w) v = if w == v then One w else Two w v
with_more (Two a b) v = Two a b

-- all of another
abbrev pub with_all : Candidates → Candidates → Candidates
with_all answer Missing = answer
with_all answer (One v) = with_more answer v
with_all answer (Two v w) = with_more (with_more answer v) w

-- whether two are kept
abbrev pub is_two : Candidates → Bool
is_two Missing = false
is_two (One v) = false
is_two (Two v w) = true

-- the value is kept, or there are two
abbrev pub Has : Candidates → ℕ → Type 0
Has Missing v = ⊥
Has (One w) v = v ≡ w
Has (Two a b) v = Unit {0}
