-- The metafile of a run, in esbuild's form.
use Rattle.std.specs.Prelude.{ℕ, zero, suc, ◌++◌, Bool, true, false, Option, Some, None, List, [], ◌∷◌, codes, decimal, length, map, slice_get, string_bytes, String}
use Rattle.std.specs.List.{flat_map, range_with_len}
use Rattle.std.specs.declared.alloc.Global.{Global}
use Rattle.gutsirava_views.specs.Json.{array, member, object, string_of}
use Rattle.gutsirava_views.specs.Shares.{share_of}
use Rattle.gutsirava_views.specs.declared.overview.ImportKind.{ImportKind}
use Rattle.gutsirava_views.specs.declared.overview.ImportKind.TheVariants.{Statement, Dynamic, Require}
use Rattle.gutsirava_views.specs.declared.overview.ImportTarget.{ImportTarget}
use Rattle.gutsirava_views.specs.declared.overview.ImportTarget.TheVariants.{Input, External}
use Rattle.gutsirava_views.specs.declared.overview.ImportView.{ImportView}
use Rattle.gutsirava_views.specs.declared.overview.InputFormat.{InputFormat}
use Rattle.gutsirava_views.specs.declared.overview.InputFormat.TheVariants.{EcmaScript, CommonJs, Json}
use Rattle.gutsirava_views.specs.declared.overview.InputView.{InputView}
use Rattle.gutsirava_views.specs.declared.overview.OutputView.{OutputView}
use Rattle.gutsirava_views.specs.declared.overview.Overview.{Overview}

-- the path of an input
abbrev pub path_in : Option InputView → List ℕ
path_in (Some input) = string_bytes input.path
path_in None = []

abbrev pub path_of : Overview → ℕ → List ℕ
path_of overview input = path_in (slice_get overview.inputs.items input)

-- the path of what is asked for, or its specifier
abbrev pub target_of : Overview → ImportTarget → List ℕ
target_of overview (Input input) = path_of overview input
target_of overview (External specifier) = string_bytes specifier

abbrev pub kind_word : ImportKind → List ℕ
kind_word Statement = codes "import-statement"
kind_word Dynamic = codes "dynamic-import"
kind_word Require = codes "require-call"

-- what else is told of an import
abbrev pub origin_members : ImportTarget → List ℕ → Bool → List (List ℕ)
origin_members (External specifier) original has = member (codes "external") (codes "true") ∷ []
origin_members (Input input) original true = member (codes "original") (string_of original) ∷ []
origin_members (Input input) original false = []

abbrev pub import_object : Overview → Bool → ImportView → List ℕ
import_object overview has_original view =
    object 4 (member (codes "path") (string_of (target_of overview view.target))
    ∷ (member (codes "kind") (string_of (kind_word view.kind))
    ∷ origin_members view.target (string_bytes view.original) has_original))

abbrev pub imports_member : Overview → Bool → List ImportView → List ℕ
imports_member overview has_original imports =
    member (codes "imports") (array 3 (map (import_object overview has_original) imports))

abbrev pub format_members : InputFormat → List (List ℕ)
format_members EcmaScript = member (codes "format") (string_of (codes "esm")) ∷ []
format_members CommonJs = member (codes "format") (string_of (codes "cjs")) ∷ []
format_members Json = []

-- a file that was read: under its path its bytes and what it asks for
abbrev pub input_member : Overview → InputView → List ℕ
input_member overview input =
    member (string_bytes input.path) (object 2 (member (codes "bytes") (decimal input.bytes)
    ∷ (imports_member overview true input.imports.items ∷ format_members input.format)))

abbrev pub export_element : String Global → List ℕ
export_element name = string_of (string_bytes name)

abbrev pub exports_member : List (String Global) → List ℕ
exports_member names = member (codes "exports") (array 3 (map export_element names))

-- so many bytes of a bundle were made for the input of this path
abbrev pub share_member : List ℕ → ℕ → List ℕ
share_member path bytes =
    member path (object 4 (member (codes "bytesInOutput") (decimal bytes) ∷ []))

-- where there are none, nothing is told
abbrev pub share_members : Overview → ℕ → ℕ → List (List ℕ)
share_members overview input zero = []
share_members overview input (suc more) =
    share_member (path_of overview input) (suc more) ∷ []

-- the same for so many inputs, in their order
abbrev pub all_shares : Overview → (ℕ → ℕ) → ℕ → List (List ℕ)
all_shares overview share count =
    flat_map (λ input. share_members overview input (share input)) (range_with_len 0 count)

-- what was made for which input
abbrev pub shares_member : Overview → OutputView → List ℕ
shares_member overview output =
    member (codes "inputs") (object 3 (all_shares overview
    (share_of output.parts.items output.bytes) (length overview.inputs.items)))

-- a bundle that was written: under its path all that is told of it
abbrev pub output_member : Overview → OutputView → List ℕ
output_member overview output =
    member (string_bytes output.path) (object 2 (imports_member overview false output.imports.items
    ∷ (exports_member output.exports.items
    ∷ (member (codes "entryPoint") (string_of (path_of overview output.entry))
    ∷ (shares_member overview output
    ∷ (member (codes "bytes") (decimal output.bytes) ∷ []))))))

-- the whole
abbrev pub metafile_of : Overview → List ℕ
metafile_of overview =
    object 0 (member (codes "inputs")
    (object 1 (map (input_member overview) overview.inputs.items))
    ∷ (member (codes "outputs")
    (object 1 (map (output_member overview) overview.outputs.items)) ∷ []))
    ++ codes "\n"
