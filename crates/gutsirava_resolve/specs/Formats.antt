-- What kind of module a file is.
use Rattle.std.specs.Prelude.{◌≡◌, ◌≢◌, ℕ, List, Option, Some, None, MatchOption, codes, if◌then◌else◌}
use Rattle.std.specs.Str.{bytes_eq}
use Rattle.gutsirava_path.specs.Places.{ending_of, file_name}
use Rattle.gutsirava_resolve.specs.declared.format.FileFormat.{FileFormat}
use Rattle.gutsirava_resolve.specs.declared.format.FileFormat.TheVariants.{EcmaScript, CommonJs, Json, Addon, Undeclared}

-- what a file is by the ending of its name (Node's documentation, "Determining module system" and
-- "Addons"); where that tells nothing, its package tells
abbrev pub format_by : List ℕ → Option FileFormat
format_by ending =
    if bytes_eq ending (codes ".mjs") then Some EcmaScript
    else if bytes_eq ending (codes ".cjs") then Some CommonJs
    else if bytes_eq ending (codes ".json") then Some Json
    else if bytes_eq ending (codes ".node") then Some Addon
    else None

-- the file at a path is that: a package tells of modules alone
abbrev pub IsFormatOf : List ℕ → FileFormat → Type 0
IsFormatOf path format =
    MatchOption (format_by (ending_of (file_name path))) ((format ≢ Json) × (format ≢ Addon))
    (λ told. format ≡ told)
