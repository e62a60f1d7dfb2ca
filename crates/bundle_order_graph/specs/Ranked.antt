-- Blocks by a rank for each place of a list: places of one rank lead to each other.
use Rattle.std.specs.Prelude.{◌≡◌, ◌≢◌, ℕ, ◌<◌, ◌≤◌, ◌⊎◌, List, length, slice_index}
use Rattle.bundle_order_graph.specs.Classes.{Leads}
use Rattle.bundle_order_graph.specs.Nodes.{place}

-- each rank is below the number of places
abbrev pub AreSmall : List ℕ → Type 0
AreSmall ranks = (i : ℕ) → i < length ranks → slice_index ranks i < length ranks

-- the module stands at a place of this rank
abbrev pub HasRank : List ℕ → List ℕ → ℕ → ℕ → Type 0
HasRank ranks list rank m = slice_index ranks (place list m) ≡ rank

-- an edge leads from the place to one of its rank
abbrev pub GoesRound : List (List ℕ) → List ℕ → ℕ → Type 0
GoesRound edges ranks i = (t : ℕ) × Leads edges i t × (slice_index ranks t ≡ slice_index ranks i)

-- the modules x and y stand at places of one rank, and an edge leads from that of x to one of this
-- rank
abbrev pub AreAlike : List (List ℕ) → List ℕ → List ℕ → ℕ → ℕ → Type 0
AreAlike edges ranks list x y =
    HasRank ranks list (slice_index ranks (place list y)) x × GoesRound edges ranks (place list x)

-- place l is the last of the rank of place i
pub record IsLastLike (ranks : List ℕ) (i l : ℕ) : Type 0 where
  pub within : l < length ranks
  pub past : i ≤ l
  pub like : slice_index ranks l ≡ slice_index ranks i

-- at the rank of each place stands the last place of this rank
abbrev pub AreLasts : List ℕ → List ℕ → Type 0
AreLasts ranks lasts =
    (i : ℕ) → i < length ranks → IsLastLike ranks i (slice_index lasts (slice_index ranks i))

-- the place is on a cycle, and no later one has its rank
pub record EndsBlock (edges : List (List ℕ)) (ranks : List ℕ) (i : ℕ) : Type 0 where
  pub round : GoesRound edges ranks i
  pub none_later : (k : ℕ) → i < k → k < length ranks → slice_index ranks k ≢ slice_index ranks i

-- it is on none, or a later one has its rank
abbrev pub EndsNone : List (List ℕ) → List ℕ → ℕ → Type 0
EndsNone edges ranks i =
    (GoesRound edges ranks i → ⊥)
    ⊎ ((k : ℕ) × (i < k) × (k < length ranks) × (slice_index ranks k ≡ slice_index ranks i))
