-- What the fields of a package.json say.
use Rattle.std.specs.Prelude.{ℕ, not, nat_eq, Bool, false, List, [], ◌∷◌, Option, Some, None, drop, codes, if◌then◌else◌}
use Rattle.std.specs.List.{starts_with}
use Rattle.std.specs.Option.{option_and_then}
use Rattle.std.specs.Str.{bytes_eq}
use Rattle.json.specs.Find.{as_str, get, is_null}
use Rattle.json.specs.Json.{Json}
use Rattle.gutsirava_package.specs.declared.package.PackageType.{PackageType}
use Rattle.gutsirava_package.specs.declared.package.PackageType.TheVariants.{EcmaScript, CommonJs, Undeclared}

-- the byte order mark, in UTF-8
abbrev pub mark : List ℕ
mark = 239 ∷ 187 ∷ 191 ∷ []

-- what stands behind a byte order mark, or all
abbrev pub unmarked : List ℕ → List ℕ
unmarked text = if starts_with nat_eq text mark then drop 3 text else text

-- the text of a field that is one
abbrev pub text_at : List ℕ → Json → Option (List ℕ)
text_at key json = option_and_then as_str (get key json)

abbrev pub is_value : Option Json → Bool
is_value (Some value) = not (is_null value)
is_value None = false

-- whether a field is there and not `null`
abbrev pub says : List ℕ → Json → Bool
says key json = is_value (get key json)

-- what kind of module a text says, and the field `type`
abbrev pub type_named : List ℕ → PackageType
type_named text =
    if bytes_eq text (codes "module") then EcmaScript
    else if bytes_eq text (codes "commonjs") then CommonJs
    else Undeclared

abbrev pub type_in : Option (List ℕ) → PackageType
type_in (Some text) = type_named text
type_in None = Undeclared
