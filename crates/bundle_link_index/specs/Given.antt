-- What is given for a name, and how far the search for it has come.
use Rattle.std.specs.Prelude.{◌≡◌, ◌≢◌, ℕ, ◌<◌, ◌⊎◌, List, Some, None, Contains, slice_get}
use Rattle.std.specs.Map.{lookup}
use Rattle.bundle_link_index.specs.declared.links.OwnLink.TheVariants.{Gives, Leads}
use Rattle.bundle_link_index.specs.declared.answer.Candidates.{Candidates}
use Rattle.bundle_link_index.specs.declared.answer.Candidates.TheVariants.{Missing, One, Two}
use Rattle.bundle_link_index.specs.Graph.{NameSpot, same_spot, Graph, own_of, stars_of}
use Rattle.bundle_link_index.specs.Answers.{Has}

-- `Given g at v`: a path of entries that lead on and of stars goes from a name to one whose own
-- entry gives the value
pub data Given (g : Graph) : NameSpot → ℕ → Type 0 where
  itself : {at : NameSpot} {v : ℕ} → own_of g at ≡ Some (Gives v) → Given g at v
  led : {at next : NameSpot} {v : ℕ} → own_of g at ≡ Some (Leads next) → Given g next v →
      Given g at v
  starred : {at : NameSpot} {d v : ℕ} →
      own_of g at ≡ None →
      at.1 ≢ g.default →
      Contains (stars_of g at.0) d →
      Given g (d, at.1) v →
      Given g at v

-- the values that are kept are given, and two differ
abbrev pub AreCandidatesKept : Graph → NameSpot → Candidates → Type 0
AreCandidatesKept g at Missing = Unit {0}
AreCandidatesKept g at (One v) = Given g at v
AreCandidatesKept g at (Two v w) = Given g at v × Given g at w × (v ≢ w)

-- the answer for a name: nothing, where no value is given; one, where it is given and no other; two
-- that are given and differ
pub record IsCandidates (g : Graph) (at : NameSpot) (answer : Candidates) : Type 0 where
  pub kept : AreCandidatesKept g at answer
  pub all : (v : ℕ) → Given g at v → Has answer v

-- the answers that are noted are right
abbrev pub AreAnswersRight : Graph → List (NameSpot × Candidates) → Type 0
AreAnswersRight g answers =
    (at : NameSpot) (answer : Candidates) →
    lookup (same_spot at) answers ≡ Some answer →
    IsCandidates g at answer

-- it is in the list
abbrev pub IsIn : {A : Type 0} → List A → A → Type 0
IsIn list at = (i : ℕ) × (slice_get list i ≡ Some at)

-- what is noted after an answer was noted for some of these names
abbrev pub NotesAnswer : List (NameSpot × Candidates) → List NameSpot → Candidates →
    List (NameSpot × Candidates) → Type 0
NotesAnswer old line answer new =
    (at : NameSpot) (its : Candidates) →
    lookup (same_spot at) new ≡ Some its →
    (lookup (same_spot at) old ≡ Some its) ⊎ (IsIn line at × (its ≡ answer))

-- The search.

-- these are put at the end of the list, as far as they are not in it
pub record AddsMissing {A : Type 0} (old : List A) (Those : A → Type 0)
    (new : List A) : Type 0 where
  pub stays : (i : ℕ) (at : A) → slice_get old i ≡ Some at → slice_get new i ≡ Some at
  pub there : (at : A) → Those at → IsIn new at
  pub no_more : (at : A) → IsIn new at → IsIn old at ⊎ Those at

-- what b gives a gives too
abbrev pub GivesAtMost : Graph → NameSpot → NameSpot → Type 0
GivesAtMost g a b = (v : ℕ) → Given g b v → Given g a v

-- a name is done: the answer has its own value, and the names to which it leads are met
pub record GoesOn (g : Graph) (met : List NameSpot) (answer : Candidates)
    (at : NameSpot) : Type 0 where
  pub gives : (v : ℕ) → own_of g at ≡ Some (Gives v) → Has answer v
  pub leads : (next : NameSpot) → own_of g at ≡ Some (Leads next) → IsIn met next
  pub stars : own_of g at ≡ None →
      at.1 ≢ g.default →
      (d : ℕ) →
      Contains (stars_of g at.0) d →
      IsIn met (d, at.1)

-- or the answer has all that it gives
abbrev pub IsPast : Graph → List NameSpot → Candidates → NameSpot → Type 0
IsPast g met answer at = ((v : ℕ) → Given g at v → Has answer v) ⊎ GoesOn g met answer at

-- one name is done
pub record SearchSteps
    (g : Graph) (at : NameSpot) (old : List NameSpot) (before : Candidates) (new : List NameSpot)
    (after : Candidates) : Type 0 where
  pub stays : (i : ℕ) (other : NameSpot) → slice_get old i ≡ Some other →
      slice_get new i ≡ Some other
  pub news : (other : NameSpot) → IsIn new other → IsIn old other ⊎ GivesAtMost g at other
  pub kept : (start : NameSpot) → GivesAtMost g start at → AreCandidatesKept g start before →
      AreCandidatesKept g start after
  pub has : (v : ℕ) → Has before v → Has after v
  pub past : IsPast g new after at

-- so many of the names that were met are done
pub record Searching
    (g : Graph) (start : NameSpot) (met : List NameSpot) (done : ℕ)
    (answer : Candidates) : Type 0 where
  pub begun : IsIn met start
  pub within : (at : NameSpot) → IsIn met at → GivesAtMost g start at
  pub kept : AreCandidatesKept g start answer
  pub past : (i : ℕ) (at : NameSpot) → i < done → slice_get met i ≡ Some at → IsPast g met answer at
