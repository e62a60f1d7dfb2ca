-- The text of a file as a reader takes it.
use Rattle.std.specs.Prelude.{◌-◌, ◌++◌, ◌==◌, ℕ, List, [], ◌∷◌, Option, Some, None, if◌then◌else◌, nat_eq, length, take, drop, codes}
use Rattle.std.specs.List.{before_first, ends_with, starts_with}

-- the byte order mark, in UTF-8
abbrev pub mark : List ℕ
mark = 239 ∷ 187 ∷ 191 ∷ []

-- what stands behind a byte order mark, or all
abbrev pub unmarked : List ℕ → List ℕ
unmarked text = if starts_with nat_eq text mark then drop 3 text else text

-- a line without a carriage return at its end
abbrev pub without_return : List ℕ → List ℕ
without_return line = if ends_with nat_eq line (13 ∷ []) then take (length line - 1) line else line

-- the first line, without its end
abbrev pub first_line : List ℕ → List ℕ
first_line text = without_return (before_first (λ byte. byte == 10) text)

-- the first line, where it begins with `#!`
abbrev pub hashbang_of : List ℕ → Option (List ℕ)
hashbang_of text =
    if starts_with nat_eq (unmarked text) (codes "#!") then Some (first_line (unmarked text))
    else None

-- with `//` in the place of `#!` in front
abbrev pub commented_out : List ℕ → List ℕ
commented_out text =
    if starts_with nat_eq text (codes "#!") then codes "//" ++ drop 2 text else text

abbrev pub plain_text : List ℕ → List ℕ
plain_text text = commented_out (unmarked text)
