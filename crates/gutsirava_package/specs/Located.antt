-- Where a target leads.
use Rattle.std.specs.Prelude.{◌≡◌, ◌-◌, ◌==◌, ◌||◌, nat_eq, ℕ, Bool, true, false, List, Option, Some, None, length, slice_index, codes, string_bytes}
use Rattle.std.specs.List.{starts_with}
use Rattle.std.specs.Str.{bytes_eq}
use Rattle.gutsirava_package.specs.declared.lookup.Located.{Located}
use Rattle.gutsirava_package.specs.declared.lookup.Located.TheVariants.{Inside, Bare}

-- whether an address begins with `./`
abbrev pub is_inner : List ℕ → Bool
is_inner address = starts_with nat_eq address (codes "./")

-- by an address that begins with `./`, or into the package itself or elsewhere
abbrev pub IsPlace : Located → Type 0
IsPlace (Inside address) = is_inner (string_bytes address) ≡ true
IsPlace (Bare specifier) = Unit {0}

-- into the package itself
abbrev pub IsInside : Located → Type 0
IsInside (Inside address) = is_inner (string_bytes address) ≡ true
IsInside (Bare specifier) = ⊥

-- nowhere else, but from `imports`
abbrev pub IsInsideOf : Bool → Option Located → Type 0
IsInsideOf true (Some located) = IsPlace located
IsInsideOf false (Some located) = IsInside located
IsInsideOf from_imports None = Unit {0}

-- whether a name is none of an entry of `imports`
abbrev pub is_no_import : List ℕ → Bool
is_no_import name =
    bytes_eq name (codes "#") || starts_with nat_eq name (codes "#/")
    || (slice_index name (length name - 1) == 47)
