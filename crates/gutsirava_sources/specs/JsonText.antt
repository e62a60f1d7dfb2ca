-- JSON as a CommonJS module (RFC 8259).
use Rattle.std.specs.Prelude.{◌≡◌, ◌≢◌, ◌++◌, ⊤, ℕ, List, [], Some, codes}
use Rattle.json.specs.Json.{skip_value}
use Rattle.json.specs.Lex.{tokens}
use Rattle.gutsirava_sources.specs.declared.json_text.JsonError.{JsonError}
use Rattle.gutsirava_sources.specs.declared.json_text.JsonError.TheVariants.{Form, Memory}

-- a value, in which no more than 128 lie in each other, and nothing behind it
abbrev pub IsJson : List ℕ → Type 0
IsJson text = skip_value 128 (tokens text) ≡ Some []

-- the module whose exports are the value
abbrev pub module_text : List ℕ → List ℕ
module_text text = codes "module.exports = " ++ text ++ codes ";"

-- a text is refused only where it is none, or where memory runs out
abbrev pub IsRefusedFor : JsonError → List ℕ → Type 0
IsRefusedFor (Form at) text = skip_value 128 (tokens text) ≢ Some []
IsRefusedFor (Memory error) text = ⊤
