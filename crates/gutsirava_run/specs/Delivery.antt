-- What a run leaves in a store and in the standard output.
use Rattle.std.specs.Prelude.{◌≡◌, ◌-◌, ◌==◌, ℕ, Bool, false, List, [], ◌∷◌, ◌++◌, length, slice_get, map, codes, option_map, Option, Some, None, string_bytes, String, if◌then◌else◌}
use Rattle.std.specs.declared.alloc.Global.{Global}
use Rattle.gutsirava_files.specs.declared.error.OutputError.{OutputError}
use Rattle.gutsirava_files.specs.declared.error.OutputError.TheVariants as errors
use Rattle.gutsirava_words.specs.declared.options.Destination.{Destination}
use Rattle.gutsirava_words.specs.declared.options.Destination.TheVariants.{Stdout, File, Folder}
use Rattle.gutsirava_words.specs.declared.options.ViewChoices.{ViewChoices}
use Rattle.gutsirava_bundle.specs.declared.bundling.BundleText.{BundleText}
use Rattle.gutsirava_graph.specs.declared.settings.OutputFormat.{OutputFormat}
use Rattle.gutsirava_graph.specs.declared.settings.OutputFormat.TheVariants.{Module, Iife}
use Rattle.gutsirava_maps.specs.Comment.{data_url_of, link_text}
use Rattle.gutsirava_path.specs.Places.{file_name}
use Rattle.gutsirava_words.specs.declared.choice.SourceMap.{SourceMap}
use Rattle.gutsirava_words.specs.declared.choice.SourceMap.TheVariants as maps
use Rattle.gutsirava_run.specs.declared.store.OutputFile.{OutputFile}

-- a file with its bytes
pub record StoredFile : Type 0 where
  pub path : List ℕ
  pub bytes : List ℕ

-- files that were written together, and those that they did not replace
pub record Delivery : Type 0 where
  pub spared : List (List ℕ)
  pub files : List StoredFile

-- what is known grows by one
abbrev pub Delivers : Option (List Delivery) → Option (List Delivery) → Delivery → Type 0
Delivers None new delivery = Unit {0}
Delivers (Some old) None delivery = ⊥
Delivers (Some old) (Some new) delivery = new ≡ old ++ delivery ∷ []

-- what is known stays
abbrev pub KeepsAll : Option (List Delivery) → Option (List Delivery) → Type 0
KeepsAll None new = Unit {0}
KeepsAll (Some old) None = ⊥
KeepsAll (Some old) (Some new) = new ≡ old

-- memory, or else what may be
abbrev pub IsRefusal : Type 0 → OutputError → Type 0
IsRefusal may_refuse (errors.Memory cause) = Unit {0}
IsRefusal may_refuse _ = may_refuse

-- a file as it is stored
abbrev pub stored_file : OutputFile → StoredFile
stored_file file = record { path = string_bytes file.path; bytes = string_bytes file.text }

-- files that are written together, over these inputs
abbrev pub delivery_of : List (String Global) → List OutputFile → Delivery
delivery_of inputs files = record {
  spared = map string_bytes inputs;
  files = map stored_file files;
}

-- the ending of a bundle's file
abbrev pub ending_of : OutputFormat → List ℕ
ending_of Module = codes ".mjs"
ending_of Iife = codes ".js"

-- `/`
abbrev pub is_slash : Option ℕ → Bool
is_slash None = false
is_slash (Some byte) = byte == 47

-- a path in a folder, which may end with `/`
abbrev pub path_in : List ℕ → List ℕ → List ℕ
path_in folder name =
    if is_slash (slice_get folder (length folder - 1)) then folder ++ name
    else folder ++ (47 ∷ name)

-- where a bundle of this name goes: to the file, or into the folder under its name
-- the standard output has no path
abbrev pub path_of : Destination → OutputFormat → List ℕ → List ℕ
path_of Stdout format name = []
path_of (File path) format name = string_bytes path
path_of (Folder folder) format name = path_in (string_bytes folder) (name ++ ending_of format)

-- where the map of a file lies
abbrev pub map_path : List ℕ → List ℕ
map_path path = path ++ codes ".map"

-- a file, and that of its map
abbrev pub files_beside : List ℕ → List ℕ → List ℕ → List StoredFile
files_beside path bytes map =
    record { path = path; bytes = bytes } ∷ record { path = map_path path; bytes = map } ∷ []

-- the file of a bundle that has a map, and that of the map: the bundle leads to its map, has it in
-- it, or says nothing
abbrev pub mapped_files : SourceMap → List ℕ → List ℕ → List ℕ → List StoredFile
mapped_files maps.None path bytes map = record { path = path; bytes = bytes } ∷ []
mapped_files maps.Inline path bytes map =
    record { path = path; bytes = bytes ++ link_text (data_url_of map) } ∷ []
mapped_files maps.Linked path bytes map =
    files_beside path (bytes ++ link_text (map_path (file_name path))) map
mapped_files maps.External path bytes map = files_beside path bytes map

-- the same where there may be no map
abbrev pub written_files : SourceMap → List ℕ → List ℕ → Option (List ℕ) → List StoredFile
written_files source_map path bytes None = record { path = path; bytes = bytes } ∷ []
written_files source_map path bytes (Some map) = mapped_files source_map path bytes map

-- the files of a bundle
abbrev pub files_for : Destination → OutputFormat → SourceMap → BundleText → List StoredFile
files_for output format source_map bundle =
    written_files source_map (path_of output format (string_bytes bundle.name))
    (string_bytes bundle.text) (option_map string_bytes bundle.map)

-- the path of a file that is asked for
abbrev pub given_path : Option (String Global) → List (List ℕ)
given_path None = []
given_path (Some path) = string_bytes path ∷ []

-- the files of what people look at, which lie beside bundles
abbrev pub view_paths : Destination → ViewChoices → List (List ℕ)
view_paths Stdout views = []
view_paths (File path) views = given_path views.metafile ++ given_path views.graph
view_paths (Folder path) views = given_path views.metafile ++ given_path views.graph

-- files, and behind them others at these paths
pub record AddsFiles (paths : List (List ℕ)) (old new : List StoredFile) : Type 0 where
  pub added : List StoredFile
  pub whole : new ≡ old ++ added
  pub named : map (λ file. file.path) added ≡ paths

-- files, and behind them those of what people look at
abbrev pub HasViews : Destination → ViewChoices → List StoredFile → List StoredFile → Type 0
HasViews output views old new = AddsFiles (view_paths output views) old new
