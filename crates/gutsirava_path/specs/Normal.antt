-- Normal paths.
use Rattle.std.specs.Prelude.{◌≡◌, ◌≢◌, ◌+◌, ◌-◌, ◌<◌, ◌++◌, ◌==◌, ◌||◌, ◌&&◌, ℕ, zero, suc, List, [], ◌∷◌, Bool, true, false, not, nat_lt, All, length, take, drop, replicate, fold, slice_index, if◌then◌else◌}
use Rattle.std.specs.List.{slice_index_or, slice_split, join_with_byte}
use Rattle.std.specs.Str.{bytes_eq}

-- whether a path begins with `/`
abbrev pub is_rooted : List ℕ → Bool
is_rooted path = slice_index path 0 == 47

-- `..`
abbrev pub up : List ℕ
up = 46 ∷ 46 ∷ []

-- no byte is `/`
abbrev pub IsPlain : List ℕ → Type 0
IsPlain part = All (λ b. (b == 47) ≡ false) part

-- the name of a file or a folder, or `..`: not empty, not `.`, without `/`
pub record IsPart (part : List ℕ) : Type 0 where
  pub filled : part ≢ []
  pub moves : part ≢ 46 ∷ []
  pub plain : IsPlain part

-- parts, of which `..` stand in front of all others, and in a path that begins with `/` nowhere
pub record AreNormal (rooted : Bool) (parts : List (List ℕ)) : Type 0 where
  pub all : All IsPart parts
  pub front : (k : ℕ) → k + 1 < length parts → slice_index_or parts (k + 1) [] ≡ up
      → slice_index_or parts k [] ≡ up
  pub names : rooted ≡ true → All (λ part. part ≢ up) parts

-- the text of parts, with `/` between each two, and in front where the path begins so
abbrev pub path_text : Bool → List (List ℕ) → List ℕ
path_text rooted parts = (if rooted then 47 ∷ [] else []) ++ join_with_byte 47 parts

-- the text of normal parts
pub record IsNormalPath (rooted : Bool) (text : List ℕ) : Type 0 where
  pub parts : List (List ℕ)
  pub normal : AreNormal rooted parts
  pub is_text : text ≡ path_text rooted parts

-- what stands between the `/` of a path
abbrev pub parts_of : List ℕ → List (List ℕ)
parts_of path = slice_split (λ b. b == 47) path

-- whether a part leads nowhere
abbrev pub is_still : List ℕ → Bool
is_still part = (length part == 0) || bytes_eq part (46 ∷ [])

-- whether parts end in a name
unfoldable pub ends_in_name : List (List ℕ) → Bool
ends_in_name parts =
    nat_lt 0 (length parts) && not (bytes_eq (slice_index_or parts (length parts - 1) []) up)

-- the parts of where one part more leads: `..` takes a name away, and leads nowhere from `/`
unfoldable pub step : Bool → List (List ℕ) → List ℕ → List (List ℕ)
step rooted parts part =
    if is_still part then parts
    else (if bytes_eq part up then
    (if ends_in_name parts then take (length parts - 1) parts
    else (if rooted then parts else parts ++ part ∷ []))
    else parts ++ part ∷ [])

-- the parts of where a path leads
abbrev pub normal_parts : List ℕ → List (List ℕ)
normal_parts path = fold (step (is_rooted path)) [] (parts_of path)

-- the normal path that leads where a path does
abbrev pub normal_text : List ℕ → List ℕ
normal_text path = path_text (is_rooted path) (normal_parts path)

-- a path as it is meant in a folder
abbrev pub joined_text : List ℕ → List ℕ → List ℕ
joined_text folder path =
    if is_rooted path || (length folder == 0) then path else folder ++ (47 ∷ path)

-- the first parts of a way: `..` for each folder that is left, or `.`
abbrev pub first_parts : ℕ → List (List ℕ)
first_parts zero = (46 ∷ []) ∷ []
first_parts (suc n) = replicate (suc n) up

-- the parts of the way from a folder of so many parts to a file, where they share so many
abbrev pub way_parts : ℕ → ℕ → List (List ℕ) → List (List ℕ)
way_parts from shared to = first_parts (from - shared) ++ drop shared to
