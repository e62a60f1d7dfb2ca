-- Keys with `*`.
use Rattle.std.specs.Prelude.{◌≡◌, ◌≢◌, ◌++◌, ◌-◌, ◌==◌, ◌<◌, ◌≤◌, ◌⊎◌, ℕ, Bool, List, [], ◌∷◌, Option, Some, None, drop, length, nat_lt, slice_get, take, if◌then◌else◌}
use Rattle.gutsirava_package.specs.declared.patterns.PatternMatch.{PatternMatch}
use Rattle.std.specs.List.{list_any}
use Rattle.std.specs.Option.{option_map}

abbrev pub is_star : ℕ → Bool
is_star byte = byte == 42

-- what stands before and behind the one `*` of a key that has one
abbrev pub parts : List ℕ → Option (List ℕ × List ℕ)
parts [] = None
parts (byte ∷ bytes) =
    if is_star byte
    then (if list_any is_star bytes then None else Some ([], bytes))
    else option_map (λ its. (byte ∷ its.0, its.1)) (parts bytes)

-- a key fits a text where its one `*` stands for `star`, which is not empty
pub record Fits (key star text : List ℕ) : Type 0 where
  pub base : List ℕ
  pub trailer : List ℕ
  pub key_is : key ≡ base ++ (42 ∷ trailer)
  pub parts_are : parts key ≡ Some (base, trailer)
  pub text_is : text ≡ base ++ (star ++ trailer)
  pub filled : star ≢ []

-- a key does not fit a text
abbrev pub FitsNowhere : List ℕ → List ℕ → Type 0
FitsNowhere key text = (star : List ℕ) → Fits key star text → ⊥

-- a key that stands at a place fits a text
pub record IsAt (key text : List ℕ) (place : ℕ) (found : PatternMatch) : Type 0 where
  pub place_is : found.place ≡ place
  pub size_is : found.size ≡ length key
  pub fits : Fits key found.star.now text

-- a key is one of these
abbrev pub IsKey : List (List ℕ) → List ℕ → Type 0
IsKey keys key = (place : ℕ) × (slice_get keys place ≡ Some key)

-- none of the keys fits a text
abbrev pub NoneFits : List (List ℕ) → List ℕ → Type 0
NoneFits keys text = (key star : List ℕ) → Fits key star text → IsKey keys key → ⊥

-- the key at a place fits a text, and none fits better: with a longer text before its `*`, or with
-- one as long, and a longer key (PATTERN_KEY_COMPARE of Node's documentation)
pub record IsBest (keys : List (List ℕ)) (text : List ℕ) (found : PatternMatch) : Type 0 where
  pub key : List ℕ
  pub key_at : slice_get keys found.place ≡ Some key
  pub fits : Fits key found.star.now text
  pub best : (other its : List ℕ) (are : Fits other its text) → IsKey keys other →
      (length are.base < length fits.base)
      ⊎ ((length are.base ≡ length fits.base) × (length other ≤ length key))

-- none of the keys fits a text with so many bytes before and behind its `*`
abbrev pub NoneBy : List (List ℕ) → List ℕ → ℕ → ℕ → Type 0
NoneBy keys text base trailer = (key star : List ℕ) (are : Fits key star text) → IsKey keys key →
    length are.base ≡ base → length are.trailer ≡ trailer → ⊥

-- the key at a place fits a text with so many bytes before its `*`
pub record IsHit (keys : List (List ℕ)) (text : List ℕ) (base : ℕ)
    (found : PatternMatch) : Type 0 where
  pub key : List ℕ
  pub key_at : slice_get keys found.place ≡ Some key
  pub size_is : found.size ≡ length key
  pub fits : Fits key found.star.now text
  pub base_is : length fits.base ≡ base

-- and with so many behind it
pub record IsHitBy (keys : List (List ℕ)) (text : List ℕ) (base trailer : ℕ)
    (found : PatternMatch) : Type 0 where
  pub hit : IsHit keys text base found
  pub trailer_is : length hit.fits.trailer ≡ trailer

-- and none that fits with so many bytes before its `*` is longer
pub record IsLongest (keys : List (List ℕ)) (text : List ℕ) (base : ℕ)
    (found : PatternMatch) : Type 0 where
  pub hit : IsHit keys text base found
  pub longest : (other its : List ℕ) (are : Fits other its text) → IsKey keys other →
      length are.base ≡ base → length other ≤ found.size

-- of two keys that fit the longer one
abbrev pub longer : Option PatternMatch → Option PatternMatch → Option PatternMatch
longer (Some one) (Some other) = if nat_lt other.size one.size then Some one else Some other
longer None (Some other) = Some other
longer first None = first

-- a text with `*` in place of what lies behind so many bytes and before so many
abbrev pub starred : List ℕ → ℕ → ℕ → List ℕ
starred text base trailer = take base text ++ (42 ∷ drop (length text - trailer) text)
