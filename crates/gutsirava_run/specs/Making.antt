-- What bundles are made of.
use Rattle.std.specs.Prelude.{◌≡◌, ◌<◌, ◌⊎◌, ℕ, Bool, true, false, ◌||◌, is_some, List, [], map, Option, Some, None, ◌++◌, IsSome, codes, option_map, string_bytes, String, if◌then◌else◌}
use Rattle.std.specs.List.{AllZip}
use Rattle.std.specs.Str.{bytes_eq}
use Rattle.std.specs.declared.alloc.Global.{Global}
use Rattle.gutsirava_path.specs.Normal.{joined_text, normal_text}
use Rattle.gutsirava_path.specs.Places.{folder_of}
use Rattle.gutsirava_words.specs.declared.choice.CharsetSetting.{CharsetSetting}
use Rattle.gutsirava_words.specs.declared.choice.CharsetSetting.TheVariants as settings
use Rattle.gutsirava_words.specs.declared.choice.LegalComments.{LegalComments}
use Rattle.gutsirava_words.specs.declared.choice.LegalComments.TheVariants as legal
use Rattle.gutsirava_words.specs.declared.choice.SourceMap.{SourceMap}
use Rattle.gutsirava_words.specs.declared.choice.SourceMap.TheVariants as maps
use Rattle.gutsirava_words.specs.declared.choice.SourcesContent.{SourcesContent}
use Rattle.gutsirava_words.specs.declared.choice.SourcesContent.TheVariants.{Kept, Dropped}
use Rattle.gutsirava_words.specs.declared.choice.Order.{Order}
use Rattle.gutsirava_words.specs.declared.choice.Order.TheVariants.{Standard, Needs}
use Rattle.gutsirava_words.specs.declared.choice.Switch.{Switch}
use Rattle.gutsirava_words.specs.declared.choice.Switch.TheVariants as switches
use Rattle.gutsirava_words.specs.declared.options.ViewChoices.{ViewChoices}
use Rattle.gutsirava_words.specs.declared.choice.Platform.{Platform}
use Rattle.gutsirava_words.specs.declared.choice.Platform.TheVariants as platforms
use Rattle.gutsirava_words.specs.declared.options.Destination.{Destination}
use Rattle.gutsirava_words.specs.declared.options.Destination.TheVariants.{Stdout, File as ToFile, Folder as ToFolder}
use Rattle.gutsirava_words.specs.declared.options.EntryPoint.{EntryPoint}
use Rattle.gutsirava_words.specs.declared.options.EntryPoint.TheVariants.{Stdin, File}
use Rattle.gutsirava_words.specs.declared.options.FormatSetting.{FormatSetting}
use Rattle.gutsirava_words.specs.declared.options.FormatSetting.TheVariants as formats
use Rattle.gutsirava_words.specs.declared.options.Options.{Options}
use Rattle.gutsirava_words.specs.declared.options.ExternalGlobal.{ExternalGlobal}
use Rattle.gutsirava_resolve.specs.declared.settings.MainField.{MainField}
use Rattle.gutsirava_resolve.specs.declared.settings.MainField.TheVariants as fields
use Rattle.gutsirava_resolve.specs.declared.settings.Settings.{Settings}
use Rattle.gutsirava_resolve.specs.declared.settings.TargetPlatform.{TargetPlatform}
use Rattle.gutsirava_resolve.specs.declared.settings.TargetPlatform.TheVariants as targets
use Rattle.bundle_js_print.specs.declared.text.Charset.{Charset}
use Rattle.bundle_js_print.specs.declared.text.Charset.TheVariants as charsets
use Rattle.gutsirava_bundle.specs.Command.{IsCommandAnswer}
use Rattle.gutsirava_bundle.specs.declared.bundling.Bundled.{Bundled}
use Rattle.gutsirava_graph.specs.declared.settings.BundleEntry.{BundleEntry}
use Rattle.gutsirava_graph.specs.declared.settings.BundleSettings.{BundleSettings}
use Rattle.gutsirava_graph.specs.declared.settings.MapSetting.{MapSetting}
use Rattle.gutsirava_graph.specs.declared.settings.MapSetting.TheVariants.{Off, Paths, Contents}
use Rattle.gutsirava_graph.specs.declared.settings.OutputFormat.{OutputFormat}
use Rattle.gutsirava_graph.specs.declared.settings.OutputFormat.TheVariants as kinds

-- a module or a script, as the options say
abbrev pub format_of : FormatSetting → OutputFormat
format_of formats.Esm = kinds.Module
format_of (formats.Iife script) = kinds.Iife

-- whether modules run in the order of ECMA-262
abbrev pub is_standard : Order → Bool
is_standard Standard = true
is_standard Needs = false

-- where a bundle is to run
abbrev pub target_of : Platform → TargetPlatform
target_of platforms.Node = targets.Node
target_of platforms.Browser = targets.Browser

-- whether comments with a licence stay
abbrev pub stay_inline : LegalComments → Bool
stay_inline legal.Inline = true
stay_inline legal.None = false

-- what source map is made
abbrev pub map_setting : SourceMap → SourcesContent → MapSetting
map_setting maps.None content = Off
map_setting _ Kept = Contents
map_setting _ Dropped = Paths

-- whether a switch is on
abbrev pub is_on : Switch → Bool
is_on switches.On = true
is_on switches.Off = false

-- whether people are to look at something
abbrev pub has_views : ViewChoices → Bool
has_views views = is_some views.metafile || (is_some views.graph || is_on views.analyze)

-- which characters a bundle is written in
abbrev pub charset_of : CharsetSetting → Charset
charset_of settings.Ascii = charsets.Ascii
charset_of settings.Utf8 = charsets.Utf8

-- the name under which a script leaves what its entry exports
abbrev pub script_name : FormatSetting → Option (List ℕ)
script_name formats.Esm = None
script_name (formats.Iife script) = option_map string_bytes script.name

-- a specifier, and what stands for its module
abbrev pub global_of : ExternalGlobal → List ℕ × List ℕ
global_of it = (string_bytes it.specifier, string_bytes it.name)

abbrev pub pair_of : String Global × String Global → List ℕ × List ℕ
pair_of it = (string_bytes it.0, string_bytes it.1)

-- what stands in a script for modules that are left, each by its specifier
abbrev pub script_globals : FormatSetting → List (List ℕ × List ℕ)
script_globals formats.Esm = []
script_globals (formats.Iife script) = map global_of script.globals.items

-- where a path leads from a folder
abbrev pub path_from : List ℕ → List ℕ → List ℕ
path_from folder path = normal_text (joined_text folder path)

-- the folder in which bundles lie that go there
abbrev pub output_folder : Destination → List ℕ → List ℕ
output_folder Stdout folder = folder
output_folder (ToFile path) folder = folder_of (path_from folder (string_bytes path))
output_folder (ToFolder path) folder = path_from folder (string_bytes path)

-- texts that are there or not, as bytes
abbrev pub text_of : Option (String Global) → Option (List ℕ)
text_of text = option_map string_bytes text

-- a bundle is to be what the options say, in this folder
pub record IsAskedFor (here : List ℕ) (options : Options) (settings : BundleSettings)
    : Type 0 where
  pub format : settings.format ≡ format_of options.format
  pub order : settings.in_standard_order ≡ is_standard options.order
  pub platform : settings.platform ≡ target_of options.platform
  pub comments : settings.keeps_comments ≡ stay_inline options.legal_comments
  pub charset : settings.charset ≡ charset_of options.charset
  pub source_map : settings.source_map ≡ map_setting options.source_map options.sources_content
  pub insight : settings.has_insight ≡ has_views options.views
  pub name : text_of settings.global_name ≡ script_name options.format
  pub globals : map pair_of settings.globals.items ≡ script_globals options.format
  pub meta_url : text_of settings.meta_url ≡ text_of options.meta_url
  pub root : text_of settings.root
      ≡ option_map (λ path. path_from here (string_bytes path)) options.root
  pub told_from : string_bytes settings.folder ≡ here
  pub lie_in : string_bytes settings.output_folder ≡ output_folder options.output here

-- the field of package.json that has this name, where one names main files
abbrev pub field_of : List ℕ → Option MainField
field_of name =
    if bytes_eq name (codes "browser") then Some fields.Browser
    else (if bytes_eq name (codes "module") then Some fields.Module
    else (if bytes_eq name (codes "main") then Some fields.Main else None))

-- texts end with others
abbrev pub EndsWith : List (String Global) → List (String Global) → Type 0
EndsWith all last =
    (front : List (List ℕ)) × (map string_bytes all ≡ front ++ map string_bytes last)

-- specifiers are resolved by the conditions of the options behind those of the platform
pub record IsResolvedFor (options : Options) (settings : Settings) : Type 0 where
  pub import_conditions : EndsWith settings.import_conditions.items options.conditions.items
  pub require_conditions : EndsWith settings.require_conditions.items options.conditions.items

-- the path is that one, or what it is without links
abbrev pub IsAt : (List ℕ → List ℕ → Type 0) → List ℕ → List ℕ → Type 0
IsAt is_real path found = (found ≡ path) ⊎ is_real path found

-- an entry is the one that is named, from this folder on: the text of the standard input as that
-- of a file there, or a file
abbrev pub IsNamed : (List ℕ → List ℕ → Type 0) → List ℕ → EntryPoint → BundleEntry → Type 0
IsNamed is_real folder Stdin entry =
    IsSome entry.text × (string_bytes entry.path ≡ path_from folder (codes "<stdin>"))
IsNamed is_real folder (File path) entry =
    (entry.text ≡ None)
    × IsAt is_real (path_from folder (string_bytes path)) (string_bytes entry.path)

-- what was made of the entries that options name, from this folder on
-- where an error is told no bundle, and else the answer of the command
pub record IsMade (is_real : List ℕ → List ℕ → Type 0) (folder : List ℕ) (options : Options)
    (bundled : Bundled) : Type 0 where
  pub settings : BundleSettings
  pub entries : List BundleEntry
  pub asked : IsAskedFor folder options settings
  pub named : AllZip (IsNamed is_real folder) options.entries.items entries
  pub unfit : 0 < bundled.messages.errors → bundled.outputs.items ≡ []
  pub answers : bundled.messages.errors ≡ 0 → IsCommandAnswer settings entries bundled.outputs.items
