-- Where a path lies, and the name of its file.
use Rattle.std.specs.Prelude.{◌==◌, ◌||◌, ◌&&◌, ℕ, Bool, List, [], ◌∷◌, length, codes, if◌then◌else◌}
use Rattle.std.specs.List.{after_last, before_last}
use Rattle.std.specs.Str.{bytes_eq}
use Rattle.gutsirava_path.specs.Normal.{is_rooted, up}

-- whether a byte is `/`
abbrev pub is_slash : ℕ → Bool
is_slash byte = byte == 47

-- whether a byte is `.`
abbrev pub is_dot : ℕ → Bool
is_dot byte = byte == 46

-- the folder that holds what lies right below it: `/`, where nothing stands before the last `/`
abbrev pub folder_of : List ℕ → List ℕ
folder_of path =
    if is_rooted path && (length (before_last is_slash path) == 0) then 47 ∷ []
    else before_last is_slash path

-- what stands behind the last `/`
abbrev pub file_name : List ℕ → List ℕ
file_name path = after_last is_slash path

-- the ending of a name: from its last `.` on, where something stands before that
abbrev pub ending_of : List ℕ → List ℕ
ending_of name =
    if (length (before_last is_dot name) == 0) || bytes_eq name up then []
    else 46 ∷ after_last is_dot name

-- whether a name is that of a folder by its form
abbrev pub is_folder_name : List ℕ → Bool
is_folder_name name = (length name == 0) || bytes_eq name (codes ".") || bytes_eq name up
