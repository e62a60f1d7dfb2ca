-- Values that are put into an order of their places.
use Rattle.std.specs.Prelude.{◌≡◌, ◌≢◌, ℕ, ◌<◌, List, length, slice_get, slice_index, slice_index_or, Some, Contains}
use Rattle.std.specs.List.{AllZip}
use Rattle.bundle_order_sort.specs.declared.arranging.Shuffle.{Shuffle}

-- each of so many places stands once
pub record IsArrangement (order : List ℕ) (count : ℕ) : Type 0 where
  pub within : (k : ℕ) → k < length order → slice_index order k < count
  pub all : (n : ℕ) → n < count → Contains order n
  pub once : (i j : ℕ) → i < j → j < length order → slice_index order i ≢ slice_index order j

-- new has at each place the value of old at the place that the order has there
abbrev pub AreArranged : {X : Type 0} → List ℕ → List X → List X → Type 0
AreArranged order old new = AllZip (λ n value. slice_get old n ≡ Some value) order new

-- How far values were put into order.

-- at each of so many places stands one of so many numbers, and each number at the place that is
-- noted for it
pub record IsInverse (numbers places : List ℕ) (count : ℕ) : Type 0 where
  pub numbers_len : length numbers ≡ count
  pub places_len : length places ≡ count
  pub numbers_in : (k : ℕ) → k < count → slice_index numbers k < count
  pub places_in : (k : ℕ) → k < count → slice_index places k < count
  pub forth : (k : ℕ) → k < count → slice_index places (slice_index numbers k) ≡ k
  pub back : (k : ℕ) → k < count → slice_index numbers (slice_index places k) ≡ k

-- so many things stand where they stood at first
pub record IsStill (shuffle : Shuffle) (count : ℕ) : Type 0 where
  pub inverse : IsInverse shuffle.numbers.items shuffle.places.items count
  pub still : (k : ℕ) → k < count → slice_index shuffle.numbers.items k ≡ k

-- at each place stands the value that had at first the place that is its number
pub record IsShuffled {X : Type 0} (shuffle : Shuffle) (first values : List X) : Type 0 where
  pub len : length values ≡ length first
  pub inverse : IsInverse shuffle.numbers.items shuffle.places.items (length first)
  pub each : (k : ℕ) (d : X) →
      k < length first →
      slice_index_or values k d ≡ slice_index_or first (slice_index shuffle.numbers.items k) d

-- the numbers of two places changed places
abbrev pub AreSwapped : List ℕ → List ℕ → ℕ → ℕ → Type 0
AreSwapped old new a b =
    (slice_index new a ≡ slice_index old b) × (slice_index new b ≡ slice_index old a)
    × ((k : ℕ) → k ≢ a → k ≢ b → slice_index new k ≡ slice_index old k)
