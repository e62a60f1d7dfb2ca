-- How a run ends.
use Rattle.std.specs.Prelude.{◌≡◌, ◌≢◌, ◌<◌, ◌⊎◌, ◌++◌, ℕ, List, [], map, Option, Result, Ok, Err, String, string_bytes}
use Rattle.std.specs.List.{flat_map}
use Rattle.std.specs.declared.alloc.Global.{Global}
use Rattle.std.specs.Io.KnownBytes.{Keeps, Appends}
use Rattle.gutsirava_words.specs.declared.help.TheConstants.{HELP, VERSION}
use Rattle.gutsirava_words.specs.declared.command.Command.{Command}
use Rattle.gutsirava_words.specs.declared.command.Command.TheVariants as commands
use Rattle.gutsirava_words.specs.declared.error.WordsError.{WordsError}
use Rattle.gutsirava_words.specs.declared.error.WordsError.TheVariants.{OutOfMemory}
use Rattle.gutsirava_words.specs.declared.options.Options.{Options}
use Rattle.gutsirava_words.specs.declared.options.Destination.{Destination}
use Rattle.gutsirava_words.specs.declared.options.Destination.TheVariants.{Stdout, File, Folder}
use Rattle.gutsirava_bundle.specs.declared.bundling.Bundled.{Bundled}
use Rattle.gutsirava_run.specs.Delivery.{StoredFile, Delivery, Delivers, KeepsAll, files_for, view_paths}
use Rattle.gutsirava_run.specs.Making.{IsMade, format_of}

-- what is known of the standard output and of the store
pub record Known : Type 0 where
  pub printed : Option (List ℕ)
  pub stored : Option (List Delivery)

abbrev pub known : Option (List ℕ) → Option (List Delivery) → Known
known printed stored = record { printed = printed; stored = stored }

-- nothing was written
pub record IsUnwritten (before after : Known) : Type 0 where
  pub printed : Keeps before.printed after.printed
  pub stored : KeepsAll before.stored after.stored

-- a text was printed, and nothing else written
pub record Prints (text : List ℕ) (before after : Known) : Type 0 where
  pub printed : Appends before.printed after.printed text
  pub stored : KeepsAll before.stored after.stored

-- a delivery was stored, and nothing was printed
pub record Stores (delivery : Delivery) (before after : Known) : Type 0 where
  pub printed : Keeps before.printed after.printed
  pub stored : Delivers before.stored after.stored delivery

-- the texts of files, one behind the other
abbrev pub texts_of : List StoredFile → List ℕ
texts_of files = flat_map (λ file. file.bytes) files

-- files were written to where they go, over these inputs, and nothing else was
abbrev pub IsDelivered : Destination → Delivery → Known → Known → Type 0
IsDelivered Stdout delivery before after = Prints (texts_of delivery.files) before after
IsDelivered (File path) delivery before after = Stores delivery before after
IsDelivered (Folder path) delivery before after = Stores delivery before after

-- the files of bundles, as options ask for them, and others, over the inputs of these
abbrev pub delivery_for : Options → Bundled → List StoredFile → Delivery
delivery_for options bundled views = record {
  spared = map string_bytes bundled.inputs.items;
  files =
      flat_map (files_for options.output (format_of options.format) options.source_map)
      bundled.outputs.items ++ views;
}

-- no error is told, and all bundles were written, with what people look at
pub record Delivered (options : Options) (bundled : Bundled) (before after : Known) : Type 0 where
  pub fit : bundled.messages.errors ≡ 0
  pub views : List StoredFile
  pub named : map (λ file. file.path) views ≡ view_paths options.output options.views
  pub written : IsDelivered options.output (delivery_for options bundled views) before after

-- an error is told, or files may be refused, and nothing was written
pub record Fails (may_refuse : Type 0) (bundled : Bundled) (before after : Known) : Type 0 where
  pub why : (0 < bundled.messages.errors) ⊎ may_refuse
  pub unwritten : IsUnwritten before after

-- the status is 0 for the one, and 1 for the other
abbrev pub Ends : Type 0 → Options → Bundled → ℕ → Known → Known → Type 0
Ends may_refuse options bundled status before after =
    ((status ≡ 0) × Delivered options bundled before after)
    ⊎ ((status ≡ 1) × Fails may_refuse bundled before after)

-- it ends so for bundles that were made of what options name from this folder on
pub record Bundles (is_real : List ℕ → List ℕ → Type 0) (may_refuse : Type 0) (folder : List ℕ)
    (options : Options) (status : ℕ) (before after : Known) : Type 0 where
  pub bundled : Bundled
  pub made : IsMade is_real folder options bundled
  pub ends : Ends may_refuse options bundled status before after

-- words that ask for nothing: the status is 2, but for memory, and nothing was written
pub record IsRefused (error : WordsError) (status : ℕ) (before after : Known) : Type 0 where
  pub words : error ≢ OutOfMemory → status ≡ 2
  pub memory : error ≡ OutOfMemory → status ≡ 1
  pub unwritten : IsUnwritten before after

-- the path of a folder that could be told
abbrev pub folder_text : {E : Type 0} → Result (String Global) E → List ℕ
folder_text (Ok folder) = string_bytes folder
folder_text (Err cause) = []

-- what was asked for is done, in this folder
abbrev pub Obeys : (List ℕ → List ℕ → Type 0) → Type 0 → List ℕ → Result Command WordsError → ℕ
    → Known → Known → Type 0
Obeys is_real may_refuse folder (Ok commands.Help) status before after =
    (status ≡ 0) × Prints HELP.now before after
Obeys is_real may_refuse folder (Ok commands.Version) status before after =
    (status ≡ 0) × Prints VERSION.now before after
Obeys is_real may_refuse folder (Ok (commands.Bundle options)) status before after =
    Bundles is_real may_refuse folder options status before after
Obeys is_real may_refuse folder (Err error) status before after =
    IsRefused error status before after
