-- What a word changes, and what is made of all of them.
use Rattle.std.specs.Prelude.{◌≡◌, ◌≢◌, ◌<◌, ◌⊎◌, ◌==◌, ℕ, Bool, true, false, List, [], ◌∷◌, ◌++◌, Option, Some, None, map, codes, IsSomeAnd, IsSome, IsNone, IsTrue, vec_len, Vec, String}
use Rattle.std.specs.List.{slice_split}
use Rattle.std.specs.declared.alloc.Global.{Global}
use Rattle.std.specs.String.{string_bytes}
use Rattle.gutsirava_words.specs.Choice.{format_text, platform_text, order_text, charset_text, legal_comments_text, log_level_text, color_text, source_map_text, sources_content_text, switch_text}
use Rattle.gutsirava_words.specs.Output.{knows_parts}
use Rattle.gutsirava_words.specs.declared.choice.FormatKind.{FormatKind}
use Rattle.gutsirava_words.specs.declared.choice.FormatKind.TheVariants as kinds
use Rattle.gutsirava_words.specs.declared.choice.Platform.TheVariants.{Node}
use Rattle.gutsirava_words.specs.declared.choice.Order.TheVariants.{Standard}
use Rattle.gutsirava_words.specs.declared.choice.CharsetSetting.TheVariants.{Ascii}
use Rattle.gutsirava_words.specs.declared.choice.LegalComments.TheVariants.{Inline}
use Rattle.gutsirava_words.specs.declared.choice.SourceMap.{SourceMap}
use Rattle.gutsirava_words.specs.declared.choice.SourceMap.TheVariants as maps
use Rattle.gutsirava_words.specs.declared.choice.SourcesContent.TheVariants.{Kept}
use Rattle.gutsirava_words.specs.declared.choice.LogLevel.TheVariants.{Info}
use Rattle.gutsirava_words.specs.declared.choice.Switch.TheVariants.{Off, On}
use Rattle.gutsirava_words.specs.declared.choice.Color.TheVariants.{Auto}
use Rattle.gutsirava_words.specs.declared.key.Key.{Key}
use Rattle.gutsirava_words.specs.declared.key.Key.TheVariants as keys
use Rattle.gutsirava_words.specs.declared.options.EntryPoint.{EntryPoint}
use Rattle.gutsirava_words.specs.declared.options.EntryPoint.TheVariants as entries
use Rattle.gutsirava_words.specs.declared.options.ExternalGlobal.{ExternalGlobal}
use Rattle.gutsirava_words.specs.declared.options.FormatSetting.{FormatSetting}
use Rattle.gutsirava_words.specs.declared.options.FormatSetting.TheVariants as formats
use Rattle.gutsirava_words.specs.declared.options.Options.{Options}
use Rattle.gutsirava_words.specs.declared.options.Destination.{Destination}
use Rattle.gutsirava_words.specs.declared.options.Destination.TheVariants.{Stdout, File, Folder}
use Rattle.gutsirava_words.specs.declared.draft.Draft.{Draft}

-- where no word was read: no files, no texts, empty lists, and the first of each choice
pub record IsFresh (draft : Draft) : Type 0 where
  pub entries : draft.entries.items ≡ []
  pub outfile : draft.outfile ≡ None
  pub outdir : draft.outdir ≡ None
  pub format : draft.format ≡ kinds.Esm
  pub global_name : draft.global_name ≡ None
  pub globals : draft.globals.items ≡ []
  pub externals : draft.externals.items ≡ []
  pub platform : draft.platform ≡ Node
  pub conditions : draft.conditions.items ≡ []
  pub main_fields : draft.main_fields ≡ None
  pub order : draft.order ≡ Standard
  pub root : draft.root ≡ None
  pub charset : draft.charset ≡ Ascii
  pub legal_comments : draft.legal_comments ≡ Inline
  pub meta_url : draft.meta_url ≡ None
  pub source_map : draft.source_map ≡ maps.None
  pub sources_content : draft.sources_content ≡ Kept
  pub metafile : draft.views.metafile ≡ None
  pub graph : draft.views.graph ≡ None
  pub analyze : draft.views.analyze ≡ Off
  pub watch : draft.views.watch ≡ Off
  pub log_level : draft.log_level ≡ Info
  pub color : draft.color ≡ Auto

-- the text is there, and is that
abbrev pub IsText : Option (String Global) → List ℕ → Type 0
IsText text value = IsSomeAnd text (λ t. string_bytes t ≡ value)

-- what stands between the commas of a value
abbrev pub parts_of : List ℕ → List (List ℕ)
parts_of value = slice_split (λ b. b == 44) value

-- the texts that are there
abbrev pub texts_of : Option (Vec (String Global) Global) → List (List ℕ)
texts_of None = []
texts_of (Some texts) = map string_bytes texts.items

-- a module and its variable, as `react=React`
abbrev pub pair_text : ExternalGlobal → List ℕ
pair_text it = string_bytes it.specifier ++ (61 ∷ string_bytes it.name)

-- the option has that value in the new draft, or what is between its commas more, and nothing else
-- differs
abbrev pub Sets : Key → List ℕ → Draft → Draft → Type 0
Sets keys.Outfile value old new =
    IsText new.outfile value × (new ≡ record old { outfile = new.outfile })
Sets keys.Outdir value old new =
    IsText new.outdir value × (new ≡ record old { outdir = new.outdir })
Sets keys.Format value old new =
    (format_text new.format ≡ value) × (new ≡ record old { format = new.format })
Sets keys.GlobalName value old new =
    IsText new.global_name value × (new ≡ record old { global_name = new.global_name })
Sets keys.Globals value old new =
    (map pair_text new.globals.items ≡ map pair_text old.globals.items ++ parts_of value)
    × (new ≡ record old { globals = new.globals })
Sets keys.External value old new =
    (map string_bytes new.externals.items ≡ map string_bytes old.externals.items ++ value ∷ [])
    × (new ≡ record old { externals = new.externals })
Sets keys.Platform value old new =
    (platform_text new.platform ≡ value) × (new ≡ record old { platform = new.platform })
Sets keys.Conditions value old new =
    (map string_bytes new.conditions.items
    ≡ map string_bytes old.conditions.items ++ parts_of value)
    × (new ≡ record old { conditions = new.conditions })
Sets keys.MainFields value old new =
    IsSomeAnd new.main_fields (λ it.
    map string_bytes it.items ≡ texts_of old.main_fields ++ parts_of value)
    × (new ≡ record old { main_fields = new.main_fields })
Sets keys.Order value old new =
    (order_text new.order ≡ value) × (new ≡ record old { order = new.order })
Sets keys.Root value old new = IsText new.root value × (new ≡ record old { root = new.root })
Sets keys.Charset value old new =
    (charset_text new.charset ≡ value) × (new ≡ record old { charset = new.charset })
Sets keys.LegalComments value old new =
    (legal_comments_text new.legal_comments ≡ value)
    × (new ≡ record old { legal_comments = new.legal_comments })
Sets keys.DefineMeta value old new =
    IsText new.meta_url value × (new ≡ record old { meta_url = new.meta_url })
Sets keys.SourceMap value old new =
    (source_map_text new.source_map ≡ value) × (new ≡ record old { source_map = new.source_map })
Sets keys.SourcesContent value old new =
    (sources_content_text new.sources_content ≡ value)
    × (new ≡ record old { sources_content = new.sources_content })
Sets keys.Metafile value old new =
    IsText new.views.metafile value
    × (new ≡ record old { views = record old.views { metafile = new.views.metafile } })
Sets keys.Graph value old new =
    IsText new.views.graph value
    × (new ≡ record old { views = record old.views { graph = new.views.graph } })
Sets keys.Analyze value old new =
    (switch_text new.views.analyze ≡ value)
    × (new ≡ record old { views = record old.views { analyze = new.views.analyze } })
Sets keys.Watch value old new =
    (switch_text new.views.watch ≡ value)
    × (new ≡ record old { views = record old.views { watch = new.views.watch } })
Sets keys.LogLevel value old new =
    (log_level_text new.log_level ≡ value) × (new ≡ record old { log_level = new.log_level })
Sets keys.Color value old new =
    (color_text new.color ≡ value) × (new ≡ record old { color = new.color })

-- what a word names: the standard input, or a file
abbrev pub Names : List ℕ → EntryPoint → Type 0
Names word entries.Stdin = word ≡ codes "-"
Names word (entries.File path) = string_bytes path ≡ word

-- the new draft has what the word names behind its files, and nothing else differs
abbrev pub AddsEntry : List ℕ → Draft → Draft → Type 0
AddsEntry word old new =
    ((entry : EntryPoint) × Names word entry
    × (new.entries.items ≡ old.entries.items ++ entry ∷ []))
    × (new ≡ record old { entries = new.entries })

-- whether such a source map is a file
abbrev pub is_file : SourceMap → Bool
is_file maps.Linked = true
is_file maps.External = true
is_file maps.None = false
is_file maps.Inline = false

-- whether a source map is a file
abbrev pub has_map_file : Draft → Bool
has_map_file draft = is_file draft.source_map

-- a file of a view and no folder, or what is watched
abbrev pub ViewsContradict : Draft → Type 0
ViewsContradict draft =
    ((IsSome draft.views.metafile ⊎ IsSome draft.views.graph) × IsNone draft.outdir)
    ⊎ (draft.views.watch ≡ On)

-- the words contradict each other: no file, several and no folder, a file and a folder, the file
-- of a source map and no folder, what is told of parts that are not known, or variables of no
-- script
abbrev pub Contradicts : Draft → Type 0
Contradicts draft =
    (vec_len draft.entries ≡ 0)
    ⊎ (((1 < vec_len draft.entries) × IsNone draft.outdir)
    ⊎ ((IsSome draft.outfile × IsSome draft.outdir)
    ⊎ (((has_map_file draft ≡ true) × IsNone draft.outdir)
    ⊎ (ViewsContradict draft
    ⊎ ((knows_parts draft.order draft.source_map draft.views ≡ false)
    ⊎ ((draft.format ≡ kinds.Esm) × (IsSome draft.global_name ⊎ (0 < vec_len draft.globals))))))))

-- one of two texts at most is there
abbrev pub IsOneAtMost : Option (String Global) → Option (String Global) → Type 0
IsOneAtMost None folder = Unit {0}
IsOneAtMost (Some path) None = Unit {0}
IsOneAtMost (Some path) (Some folder) = ⊥

-- a module has neither a name nor globals
abbrev pub AreOfFormat : FormatKind → Option (String Global) → List ExternalGlobal → Type 0
AreOfFormat kinds.Iife name globals = Unit {0}
AreOfFormat kinds.Esm name globals = (name ≡ None) × (globals ≡ [])

-- the words do not contradict each other
pub record Agrees (draft : Draft) : Type 0 where
  pub some : 0 < vec_len draft.entries
  pub one_output : IsOneAtMost draft.outfile draft.outdir
  pub one_unless_folder : 1 < vec_len draft.entries → IsSome draft.outdir
  pub parts : IsTrue (knows_parts draft.order draft.source_map draft.views)
  pub of_format : AreOfFormat draft.format draft.global_name draft.globals.items

-- where bundles go: into the folder, to the file, or to the standard output where there is neither
-- or the file is `-`
abbrev pub Leads : Option (String Global) → Option (String Global) → Destination → Type 0
Leads (Some path) (Some folder) output = ⊥
Leads None (Some folder) output = output ≡ Folder folder
Leads (Some path) None output =
    (string_bytes path ≡ codes "-" → output ≡ Stdout)
    × (string_bytes path ≢ codes "-" → output ≡ File path)
Leads None None output = output ≡ Stdout

-- what bundles are written as: a script with its variables, or a module, which has none
abbrev pub Writes : FormatKind → Option (String Global) → Vec ExternalGlobal Global → FormatSetting
    → Type 0
Writes kinds.Iife name globals format =
    format ≡ formats.Iife (record { name = name; globals = globals })
Writes kinds.Esm name globals format = (format ≡ formats.Esm) × (name ≡ None) × (globals.items ≡ [])

-- the options are what the draft says
pub record Holds (draft : Draft) (options : Options) : Type 0 where
  pub entries : options.entries ≡ draft.entries
  pub output : Leads draft.outfile draft.outdir options.output
  pub format : Writes draft.format draft.global_name draft.globals options.format
  pub externals : options.externals ≡ draft.externals
  pub platform : options.platform ≡ draft.platform
  pub conditions : options.conditions ≡ draft.conditions
  pub main_fields : options.main_fields ≡ draft.main_fields
  pub order : options.order ≡ draft.order
  pub root : options.root ≡ draft.root
  pub charset : options.charset ≡ draft.charset
  pub legal_comments : options.legal_comments ≡ draft.legal_comments
  pub meta_url : options.meta_url ≡ draft.meta_url
  pub source_map : options.source_map ≡ draft.source_map
  pub sources_content : options.sources_content ≡ draft.sources_content
  pub views : options.views ≡ draft.views
  pub log_level : options.log_level ≡ draft.log_level
  pub color : options.color ≡ draft.color
