-- What a map `browser` says.
use Rattle.std.specs.Prelude.{◌≡◌, ℕ, true, false, List, [], ◌∷◌, Option, Some, None, IfSome, slice_get, string_bytes, if◌then◌else◌}
use Rattle.std.specs.Str.{bytes_eq}
use Rattle.json.specs.Json.{Json, boolean, string, Members, no_members, member}
use Rattle.gutsirava_package.specs.declared.browser.BrowserReplacement.{BrowserReplacement}
use Rattle.gutsirava_package.specs.declared.browser.BrowserReplacement.TheVariants.{Empty, Text, Unknown}

-- what takes the place of what a key names: an empty module, or what a text names
pub data Replacing : Type 0 where
  an_empty_module : Replacing
  named : List ℕ → Replacing

-- a key, and what it says, if anything
abbrev pub Entry : Type 0
Entry = List ℕ × Option Replacing

-- what a value says
abbrev pub said : Json → Option Replacing
said (string text) = Some (named text)
said (boolean false) = Some an_empty_module
said value = None

abbrev pub replacing : BrowserReplacement → Option Replacing
replacing Empty = Some an_empty_module
replacing (Text text) = Some (named (string_bytes text))
replacing Unknown = None

-- entries in which a key says this: where it stands, or behind all
abbrev pub with_key : List ℕ → Option Replacing → List Entry → List Entry
with_key key says [] = (key, says) ∷ []
with_key key says (entry ∷ entries) =
    if bytes_eq entry.0 key then (key, says) ∷ entries else entry ∷ with_key key says entries

-- entries, and in turn what each member of an object says
abbrev pub with_members : Members → List Entry → List Entry
with_members no_members entries = entries
with_members (member key value more) entries =
    with_members more (with_key key (said value) entries)

-- a key stands at a place and says something
abbrev pub Says : List Entry → List ℕ → ℕ → Type 0
Says entries key place = (it : Replacing) × (slice_get entries place ≡ Some (key, Some it))

-- a key says something there, and nowhere else
abbrev pub IsPlaceIn : List Entry → List ℕ → Option ℕ → Type 0
IsPlaceIn entries key place =
    (IfSome place (Says entries key)) × ((at : ℕ) → Says entries key at → place ≡ Some at)
