-- Rows of bits: position p of a row is bit p % 64 of its word p / 64, and words that are missing
-- are 0.
use Rattle.std.specs.Prelude.{◌≡◌, ◌≢◌, ℕ, ◌-◌, ◌/◌, ◌%◌, ◌^◌, ◌<◌, ◌≤◌, ◌⊎◌, ◌↔◌, List, [], length, sum_by, slice_index, slice_index_or, Contains}
use Rattle.std.specs.Int.{bit_at}
use Rattle.bundle_order_graph.specs.Modules.{Modules, Requests}

-- position p is in the row
unfoldable pub Has : List ℕ → ℕ → Type 0
Has row p = bit_at (slice_index row (p / 64)) (p % 64) ≡ 1

-- the two rows have the same positions
abbrev pub SameRow : List ℕ → List ℕ → Type 0
SameRow old new = (p : ℕ) → Has new p ↔ Has old p

-- how far the words of a row are from being full
abbrev pub row_room : List ℕ → ℕ
row_room row = sum_by (λ w. 2 ^ 64 - 1 - w) row

-- the row of i; past the last row, an empty one
abbrev pub row_at : List (List ℕ) → ℕ → List ℕ
row_at rows i = slice_index_or rows i []

-- position j is in the row of i
abbrev pub HasBit : List (List ℕ) → ℕ → ℕ → Type 0
HasBit rows i j = Has (row_at rows i) j

-- the two lists of rows have the same positions
abbrev pub SameRows : List (List ℕ) → List (List ℕ) → Type 0
SameRows old new = (i j : ℕ) → HasBit new i j ↔ HasBit old i j

-- how far the words of all rows are from being full
abbrev pub room : List (List ℕ) → ℕ
room rows = sum_by row_room rows

-- i reaches from, or is from, and its row lacks to
pub record Gains (rows : List (List ℕ)) (from to i : ℕ) : Type 0 where
  pub comes : (i ≡ from) ⊎ HasBit rows i from
  pub lacks : HasBit rows i to → ⊥

-- the row of i has a word for position to, and all the words of the row of to
pub record IsWideFor (rows : List (List ℕ)) (to i : ℕ) : Type 0 where
  pub word : to / 64 < length (row_at rows i)
  pub words : length (row_at rows to) ≤ length (row_at rows i)

-- i reaches j by the old rows, or through a new edge
abbrev pub Joins : List (List ℕ) → ℕ → ℕ → ℕ → ℕ → Type 0
Joins rows from to i j =
    HasBit rows i j ⊎ (((i ≡ from) ⊎ HasBit rows i from) × ((j ≡ to) ⊎ HasBit rows to j))

-- what is reached from a reached position is reached
abbrev pub IsTransitive : List (List ℕ) → Type 0
IsTransitive rows = (i j k : ℕ) → HasBit rows i j → HasBit rows j k → HasBit rows i k

-- one of the edges leads from i to j
abbrev pub IsEdge : List (ℕ × ℕ) → ℕ → ℕ → Type 0
IsEdge edges i j = Contains edges (i, j)

-- both ends of the edge are below n
abbrev pub IsWithin : ℕ → ℕ × ℕ → Type 0
IsWithin n edge = (edge.0 < n) × (edge.1 < n)

-- the row of i gains position to, and all that the row of to has; nothing else changes, and no row
-- changes its length
pub record Absorbs (old : List (List ℕ)) (at to : ℕ) (new : List (List ℕ)) : Type 0 where
  pub len : length new ≡ length old
  pub lens : (i : ℕ) → length (row_at new i) ≡ length (row_at old i)
  pub others : (i j : ℕ) → i ≢ at → HasBit new i j ↔ HasBit old i j
  pub own : (j : ℕ) → HasBit new at j ↔ (HasBit old at j ⊎ ((j ≡ to) ⊎ HasBit old to j))

-- an edge leads from the module at i to the one at j
pub record IsEdgeAt (g : Modules) (list : List ℕ) (i j : ℕ) : Type 0 where
  pub from : i < length list
  pub to : j < length list
  pub edge : Requests g (slice_index list i) (slice_index list j)
