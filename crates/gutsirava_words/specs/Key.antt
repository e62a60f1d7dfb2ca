-- The options that take a value.
use Rattle.std.specs.Prelude.{ℕ, Bool, true, false, List, [], ◌∷◌, ◌++◌, Option, Some, None, codes}
use Rattle.std.specs.List.{find}
use Rattle.std.specs.Str.{bytes_eq}
use Rattle.gutsirava_words.specs.Choice.{format_text, platform_text, order_text, charset_text, legal_comments_text, log_level_text, color_text, source_map_text, sources_content_text, switch_text}
use Rattle.gutsirava_words.specs.declared.choice.FormatKind.TheVariants as formats
use Rattle.gutsirava_words.specs.declared.choice.Platform.TheVariants as platforms
use Rattle.gutsirava_words.specs.declared.choice.Order.TheVariants as orders
use Rattle.gutsirava_words.specs.declared.choice.CharsetSetting.TheVariants as charsets
use Rattle.gutsirava_words.specs.declared.choice.LegalComments.TheVariants as comments
use Rattle.gutsirava_words.specs.declared.choice.SourceMap.TheVariants as maps
use Rattle.gutsirava_words.specs.declared.choice.SourcesContent.TheVariants as contents
use Rattle.gutsirava_words.specs.declared.choice.Switch.TheVariants as switches
use Rattle.gutsirava_words.specs.declared.choice.LogLevel.TheVariants as levels
use Rattle.gutsirava_words.specs.declared.choice.Color.TheVariants as colors
use Rattle.gutsirava_words.specs.declared.key.Key.{Key}
use Rattle.gutsirava_words.specs.declared.key.Key.TheVariants as keys

-- how an option is written
abbrev pub key_text : Key → List ℕ
key_text keys.Outfile = codes "--outfile"
key_text keys.Outdir = codes "--outdir"
key_text keys.Format = codes "--format"
key_text keys.GlobalName = codes "--global-name"
key_text keys.Globals = codes "--globals"
key_text keys.External = codes "--external"
key_text keys.Platform = codes "--platform"
key_text keys.Conditions = codes "--conditions"
key_text keys.MainFields = codes "--main-fields"
key_text keys.Order = codes "--order"
key_text keys.Root = codes "--root"
key_text keys.Charset = codes "--charset"
key_text keys.LegalComments = codes "--legal-comments"
key_text keys.DefineMeta = codes "--define-meta"
key_text keys.SourceMap = codes "--sourcemap"
key_text keys.SourcesContent = codes "--sources-content"
key_text keys.Metafile = codes "--metafile"
key_text keys.Analyze = codes "--analyze"
key_text keys.Graph = codes "--graph"
key_text keys.Watch = codes "--watch"
key_text keys.LogLevel = codes "--log-level"
key_text keys.Color = codes "--color"

-- whether a use of an option adds to those before it
abbrev pub adds_up : Key → Bool
adds_up keys.Globals = true
adds_up keys.External = true
adds_up keys.Conditions = true
adds_up keys.MainFields = true
adds_up _ = false

-- all of them
abbrev pub all_keys : List Key
all_keys =
    keys.Outfile ∷ keys.Outdir ∷ keys.Format ∷ keys.GlobalName ∷ keys.Globals ∷ keys.External
    ∷ keys.Platform ∷ keys.Conditions ∷ keys.MainFields ∷ keys.Order ∷ keys.Root ∷ keys.Charset
    ∷ keys.LegalComments ∷ keys.DefineMeta ∷ keys.SourceMap ∷ keys.SourcesContent ∷ keys.Metafile
    ∷ keys.Analyze ∷ keys.Graph ∷ keys.Watch ∷ keys.LogLevel ∷ keys.Color ∷ []

-- the option that is written so, if there is one
unfoldable pub key_named : List ℕ → Option Key
key_named name = find (λ key. bytes_eq (key_text key) name) all_keys

-- the value of an option to which none is joined, where it needs none
abbrev pub plain_text : Key → Option (List ℕ)
plain_text keys.SourceMap = Some (source_map_text maps.Linked)
plain_text keys.Analyze = Some (switch_text switches.On)
plain_text keys.Watch = Some (switch_text switches.On)
plain_text _ = None

-- texts as a sentence lists them: `a or b`, and `a, b or c`
abbrev pub listed : List (List ℕ) → List ℕ
listed [] = []
listed (first ∷ []) = first
listed (first ∷ second ∷ []) = first ++ codes " or " ++ second
listed (first ∷ second ∷ third ∷ more) = first ++ codes ", " ++ listed (second ∷ third ∷ more)

-- what an option takes: of one of a few words, these
abbrev pub values_text : Key → List ℕ
values_text keys.Outfile = codes "a file"
values_text keys.Metafile = codes "a file"
values_text keys.Outdir = codes "a folder"
values_text keys.Root = codes "a folder"
values_text keys.Format = listed (format_text formats.Esm ∷ format_text formats.Iife ∷ [])
values_text keys.GlobalName = codes "a variable of JavaScript, as App or App.core"
values_text keys.Globals = codes "a module and its variable, as react=React"
values_text keys.External = codes "a package, a path or a pattern with one *"
values_text keys.Platform =
    listed (platform_text platforms.Node ∷ platform_text platforms.Browser ∷ [])
values_text keys.Conditions = codes "conditions with commas between them"
values_text keys.MainFields = codes "fields with commas between them"
values_text keys.Order = listed (order_text orders.Standard ∷ order_text orders.Needs ∷ [])
values_text keys.Charset = listed (charset_text charsets.Ascii ∷ charset_text charsets.Utf8 ∷ [])
values_text keys.LegalComments =
    listed (legal_comments_text comments.Inline ∷ legal_comments_text comments.None ∷ [])
values_text keys.DefineMeta = codes "a text"
values_text keys.SourceMap =
    listed (source_map_text maps.None ∷ source_map_text maps.Linked ∷ source_map_text maps.Inline
    ∷ source_map_text maps.External ∷ [])
values_text keys.Graph = codes "a file, as graph.svg"
values_text keys.SourcesContent =
    listed (sources_content_text contents.Kept ∷ sources_content_text contents.Dropped ∷ [])
values_text keys.Analyze = listed (switch_text switches.On ∷ switch_text switches.Off ∷ [])
values_text keys.Watch = listed (switch_text switches.On ∷ switch_text switches.Off ∷ [])
values_text keys.LogLevel =
    listed (log_level_text levels.Info ∷ log_level_text levels.Warning ∷ log_level_text levels.Error
    ∷ log_level_text levels.Silent ∷ [])
values_text keys.Color =
    listed (color_text colors.Auto ∷ color_text colors.Always ∷ color_text colors.Never ∷ [])
