-- Where outputs go, and which files are spared.
use Rattle.std.specs.Prelude.{◌≡◌, ◌⊎◌, ◌==◌, ℕ, Bool, true, List, ◌∷◌, [], length, string_bytes, String, if◌then◌else◌}
use Rattle.std.specs.List.{list_any}
use Rattle.std.specs.Str.{bytes_eq}
use Rattle.std.specs.declared.alloc.Global.{Global}
use Rattle.gutsirava_path.specs.Normal.{joined_text, normal_text}
use Rattle.gutsirava_path.specs.Places.{file_name, folder_of}

-- all inputs are among these paths
abbrev pub AreInputs : (List ℕ → Bool) → List (String Global) → Type 0
AreInputs is_input inputs = (path : List ℕ) → is_input path ≡ true →
    list_any (λ input. bytes_eq (string_bytes input) path) inputs ≡ true

-- the folder of a file: where its path has none, the one that is worked in
abbrev pub folder_at : List ℕ → List ℕ
folder_at path = if length (folder_of path) == 0 then 46 ∷ [] else folder_of path

-- a place in a folder, under the name of a file
abbrev pub place_in : List ℕ → List ℕ → List ℕ
place_in folder path = normal_text (joined_text folder (file_name path))

-- these bytes were written whole to a file that stands at the path
pub record IsFileAt (leads is_written : List ℕ → List ℕ → Bool) (path bytes : List ℕ)
    : Type 0 where
  pub place : List ℕ
  pub leads_there : leads path place ≡ true
  pub written : is_written place bytes ≡ true

-- these bytes were written whole to a file that stands at the path, or to the device there
abbrev pub IsWrittenTo : (List ℕ → List ℕ → Bool) → (List ℕ → Bool) → (List ℕ → List ℕ → Bool)
    → List ℕ × List ℕ → Type 0
IsWrittenTo leads has_device is_written wanted =
    IsFileAt leads is_written wanted.0 wanted.1
    ⊎ ((has_device wanted.0 ≡ true) × (is_written wanted.0 wanted.1 ≡ true))
