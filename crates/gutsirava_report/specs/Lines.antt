-- Where lines end.
use Rattle.std.specs.Prelude.{ℕ, ◌+◌, ◌==◌, ◌&&◌, ◌||◌, Bool, not, List, [], ◌∷◌, if◌then◌else◌}

-- a line ends with the byte: a carriage return, or a line feed that follows none
abbrev pub is_line_end : Bool → ℕ → Bool
is_line_end follows_return byte = (byte == 13) || ((byte == 10) && not follows_return)

-- how many lines end in the text
abbrev pub line_ends : Bool → List ℕ → ℕ
line_ends follows_return [] = 0
line_ends follows_return (byte ∷ bytes) =
    (if is_line_end follows_return byte then 1 else 0) + line_ends (byte == 13) bytes
