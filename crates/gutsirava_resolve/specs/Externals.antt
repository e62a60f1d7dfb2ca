-- What is left as it is.
use Rattle.std.specs.Prelude.{◌≡◌, ◌⊎◌, ◌==◌, ◌||◌, ◌&&◌, ℕ, nat_eq, nat_lt, Bool, List, length, map, drop, codes, string_bytes, if◌then◌else◌}
use Rattle.std.specs.List.{after_first, before_first, ends_with, list_any, position_or_len, starts_with}
use Rattle.std.specs.Str.{bytes_eq}
use Rattle.std.specs.declared.alloc.Global.{Global}
use Rattle.std.specs.declared.string.String.{String}
use Rattle.gutsirava_path.specs.Specifiers.{package_name}
use Rattle.gutsirava_resolve.specs.declared.externals.Externals.{Externals}

-- the texts of its specifiers, and those of its paths
abbrev pub names_of : Externals → List (List ℕ)
names_of it = map string_bytes it.names.items

abbrev pub paths_of : Externals → List (List ℕ)
paths_of it = map string_bytes it.paths.items

-- whether a text is a path
abbrev pub is_path : List ℕ → Bool
is_path text =
    starts_with nat_eq text (codes "./") || starts_with nat_eq text (codes "../")
    || starts_with nat_eq text (codes "/")

abbrev pub is_star : ℕ → Bool
is_star byte = byte == 42

-- whether a text begins with one and ends with another behind that
abbrev pub fits_round : List ℕ → List ℕ → List ℕ → Bool
fits_round front back text =
    starts_with nat_eq text front && ends_with nat_eq (drop (length front) text) back

-- whether a text is the pattern's, whose first `*` stands for any text
abbrev pub fits : List ℕ → List ℕ → Bool
fits pattern text =
    if nat_lt (position_or_len is_star pattern) (length pattern)
    then fits_round (before_first is_star pattern) (after_first is_star pattern) text
    else bytes_eq pattern text

-- whether a text fits one of these, and whether it is one
abbrev pub fit_any : List (String Global) → List ℕ → Bool
fit_any patterns text = list_any (λ pattern. fits (string_bytes pattern) text) patterns

abbrev pub have : List (String Global) → List ℕ → Bool
have names name = list_any (λ it. bytes_eq (string_bytes it) name) names

-- the specifier itself, or the name of its package
abbrev pub IsPackageOf : List ℕ → List ℕ → Type 0
IsPackageOf specifier name = (name ≡ specifier) ⊎ (name ≡ package_name specifier)
