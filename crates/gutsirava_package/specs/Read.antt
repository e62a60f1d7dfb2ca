-- What a package is that was read.
use Rattle.std.specs.Prelude.{◌≡◌, [], Option, None, Some, is_some, option_and_then, option_map, codes, string_bytes}
use Rattle.json.specs.Find.{as_object, as_str, get}
use Rattle.json.specs.Json.{Json, Members}
use Rattle.gutsirava_package.specs.Browser.{with_members}
use Rattle.gutsirava_package.specs.Fields.{says, text_at, type_in}
use Rattle.gutsirava_package.specs.declared.package.Browser.{Browser}
use Rattle.gutsirava_package.specs.declared.package.Browser.TheVariants.{Absent, Main, Map}
use Rattle.gutsirava_package.specs.declared.package.Package.{Package}

-- the field `browser`: a text, a map of the members of an object, or none of these
abbrev pub IsBrowser : Browser → Option Json → Type 0
IsBrowser Absent field =
    (option_and_then as_str field ≡ None) × (option_and_then as_object field ≡ None)
IsBrowser (Main text) field = option_and_then as_str field ≡ Some (string_bytes text)
IsBrowser (Map entries) field =
    (members : Members) × (option_and_then as_object field ≡ Some members)
    × (entries ≡ with_members members [])

-- its texts, its type and its `browser` are those of the fields; it has exports and imports where
-- they are there
pub record IsPackage (it : Package) (json : Json) : Type 0 where
  pub name : option_map string_bytes it.name ≡ text_at (codes "name") json
  pub main : option_map string_bytes it.main ≡ text_at (codes "main") json
  pub of_bundlers : option_map string_bytes it.«module» ≡ text_at (codes "module") json
  pub type_is : it.module_type ≡ type_in (text_at (codes "type") json)
  pub browser : IsBrowser it.browser (get (codes "browser") json)
  pub exports : is_some it.exports ≡ says (codes "exports") json
  pub imports : is_some it.imports ≡ says (codes "imports") json
