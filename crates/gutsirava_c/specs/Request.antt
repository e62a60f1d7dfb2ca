-- What a request for bundles of source texts asks for.
use Rattle.std.specs.Prelude.{◌≡◌, ℕ, Bool, true, false, List, [], ◌∷◌, Option, Some, None, IsSome, IsSomeAnd, IsUtf8, codes, map, option_and_then, option_map, string_bytes}
use Rattle.std.specs.Borrow.{Bor}
use Rattle.std.specs.List.{AllZip}
use Rattle.std.specs.declared.alloc.Global.{Global}
use Rattle.std.specs.declared.string.String.{String}
use Rattle.json.specs.Find.{as_object, get}
use Rattle.json.specs.Json.{Json, string, array, object, item, no_items, Members, member, no_members, document}
use Rattle.json.specs.Value.{items_of, value_view}
use Rattle.json.specs.declared.value.Value.{Value}
use Rattle.bundle_json_form.specs.declared.error.FormError.{FormError}
use Rattle.bundle_json_form.specs.declared.error.FormError.TheVariants.{Form}
use Rattle.gutsirava_path.specs.Normal.{joined_text, normal_text}
use Rattle.gutsirava_resolve.specs.declared.settings.TargetPlatform.{TargetPlatform}
use Rattle.gutsirava_resolve.specs.declared.settings.TargetPlatform.TheVariants.{Browser, Node}
use Rattle.gutsirava_graph.specs.declared.settings.BundleEntry.{BundleEntry}
use Rattle.gutsirava_graph.specs.declared.settings.BundleSettings.{BundleSettings}
use Rattle.gutsirava_graph.specs.declared.settings.OutputFormat.{OutputFormat}
use Rattle.gutsirava_graph.specs.declared.settings.OutputFormat.TheVariants.{Iife, Module}

-- the value that was found
abbrev pub found : Option (Bor (Value Global)) → Option Json
found value = option_map (λ it. value_view it.now) value

-- the last value under this key of an object, if there is one
abbrev pub under : List ℕ → Option Json → Option Json
under key value = option_and_then (get key) value

-- the word for what a bundle is written as; a module where nothing is said
abbrev pub format_word : OutputFormat → List ℕ
format_word Module = codes "Es"
format_word Iife = codes "Iife"

abbrev pub IsFormat : Option Json → OutputFormat → Type 0
IsFormat None format = format ≡ Module
IsFormat (Some word) format = word ≡ string (format_word format)

-- the word for the order of modules; the standard's where nothing is said
abbrev pub order_word : Bool → List ℕ
order_word true = codes "Standard"
order_word false = codes "Needs"

abbrev pub IsOrder : Option Json → Bool → Type 0
IsOrder None in_standard_order = in_standard_order ≡ true
IsOrder (Some word) in_standard_order = word ≡ string (order_word in_standard_order)

-- the word for where a bundle is to run; Node where nothing is said
abbrev pub platform_word : TargetPlatform → List ℕ
platform_word Node = codes "Node"
platform_word Browser = codes "Browser"

abbrev pub IsPlatform : Option Json → TargetPlatform → Type 0
IsPlatform None platform = platform ≡ Node
IsPlatform (Some word) platform = word ≡ string (platform_word platform)

-- a text that may be left out
abbrev pub IsTextOrNone : Option Json → Option (String Global) → Type 0
IsTextOrNone None text = text ≡ None
IsTextOrNone (Some it) text = IsSomeAnd text (λ text. it ≡ string (string_bytes text))

-- what is under the keys of an object are these settings
pub record AreSettings (config : Option Json) (settings : BundleSettings) : Type 0 where
  pub format : IsFormat (under (codes "module") config) settings.format
  pub order : IsOrder (under (codes "order") config) settings.in_standard_order
  pub platform : IsPlatform (under (codes "platform") config) settings.platform
  pub global_name : IsTextOrNone (under (codes "global_name") config) settings.global_name

-- the pair of an entry: its name, and its file, as it is meant from `/`
pub record IsEntryPair (pair : Json) (entry : BundleEntry) : Type 0 where
  pub file : List ℕ
  pub is_pair : pair ≡ array (item (string (string_bytes entry.name))
      (item (string file) no_items))
  pub path : string_bytes entry.path ≡ normal_text (joined_text (codes "/") file)
  pub text : entry.text ≡ None

-- an array with the pairs of these entries
pub record AreEntryPairs (entries : List BundleEntry) (value : Json) : Type 0 where
  pub pairs : List Json
  pub is_array : value ≡ array (items_of pairs)
  pub each : AllZip IsEntryPair pairs entries

-- settings stand in an object, which may be left out
abbrev pub IsObjectOrNone : Option Json → Type 0
IsObjectOrNone None = Unit {0}
IsObjectOrNone (Some value) = IsSome (as_object value)

-- specifiers and paths stand in an array of texts, which may be left out
abbrev pub AreTexts : Option Json → Type 0
AreTexts None = Unit {0}
AreTexts (Some value) = (texts : List (List ℕ)) × (value ≡ array (items_of (map string texts)))

-- members of an object, each a name and a text
abbrev pub text_members : List (List ℕ × List ℕ) → Members
text_members [] = no_members
text_members (it ∷ more) = member it.0 (string it.1) (text_members more)

-- files stand in an object, each a text under its name
abbrev pub AreFileTexts : Json → Type 0
AreFileTexts value = (files : List (List ℕ × List ℕ)) × (value ≡ object (text_members files))

-- what a value asks for: these settings and these entries
pub record Asks (value : Json) (settings : BundleSettings) (entries : List BundleEntry) : Type 0
  where
    pub in_object : IsObjectOrNone (get (codes "config") value)
    pub are_settings : AreSettings (get (codes "config") value) settings
    pub externals : AreTexts (under (codes "external_modules") (get (codes "config") value))
    pub are_entries : IsSomeAnd (get (codes "entries") value) (AreEntryPairs entries)
    pub are_files : IsSomeAnd (get (codes "files") value) AreFileTexts

-- it asks for nothing
abbrev pub AsksNothing : Json → Type 0
AsksNothing value =
    (settings : BundleSettings) (entries : List BundleEntry) → ¬ Asks value settings entries

-- the text is that of a value that asks for these
pub record TextAsks (text : List ℕ) (settings : BundleSettings) (entries : List BundleEntry) :
    Type 0
  where
    pub utf8 : IsUtf8 text
    pub value : Json
    pub is_read : document text ≡ Some value
    pub asks : Asks value settings entries

-- it is that of no request
abbrev pub IsNoRequest : List ℕ → Type 0
IsNoRequest text =
    (settings : BundleSettings) (entries : List BundleEntry) → ¬ TextAsks text settings entries

-- where it is not for want of memory, this is the reason
abbrev pub RefusesOf : Type 0 → FormError → Type 0
RefusesOf reason error = error ≡ Form → reason
