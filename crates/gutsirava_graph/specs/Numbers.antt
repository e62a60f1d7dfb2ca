-- How modules are called between the command and the linker: by their numbers, in decimal digits.
use Rattle.std.specs.Prelude.{◌≡◌, ℕ, List, ◌∷◌, decimal}
use Rattle.std.specs.Str.Parse.{IsNumeral, digits_value, without_leading_plus}
use Rattle.bundle_tree_names.specs.FileName.{Name, real, custom}

-- the text is a number in decimal digits, and this is the number
abbrev pub ReadsAs : List ℕ → ℕ → Type 0
ReadsAs text n =
    IsNumeral 10 (without_leading_plus text) × (n ≡ digits_value 10 (without_leading_plus text))

-- the name under which the linker knows a module
abbrev pub unit_name : ℕ → Name
unit_name unit = custom (decimal unit)

-- it is a name of the module
abbrev pub IsNameOf : Name → ℕ → Type 0
IsNameOf (custom text) unit = ReadsAs text unit
IsNameOf (real text) unit = ⊥

-- the specifier by which a module is asked for: a NUL, and its number behind it
abbrev pub key_text : ℕ → List ℕ
key_text unit = 0 ∷ decimal unit

-- a specifier asks for the module
abbrev pub IsKeyOf : List ℕ → ℕ → Type 0
IsKeyOf specifier unit = (text : List ℕ) × (specifier ≡ 0 ∷ text) × ReadsAs text unit
