-- The tokens of the JSON text of a map (ECMA-426, 9).
use Rattle.std.specs.Prelude.{◌≡◌, ℕ, Bool, List, [], ◌∷◌, ◌++◌, map, codes, decimal, if◌then◌else◌}
use Rattle.json.specs.Token.{Token, begin_object, end_object, begin_array, end_array, key, string, number}
use Rattle.json.specs.Written.{Written}
use Rattle.gutsirava_maps.specs.declared.text.MapSource.{MapSource}

-- tokens more
pub record Tells (old new : Written) (tokens : List Token) : Type 0 where
  pub before : new.before ≡ old.before
  pub told : new.tokens ≡ old.tokens ++ tokens

-- an array of strings, under a key
abbrev pub array_tokens : List ℕ → List (List ℕ) → List Token
array_tokens name texts = ((key name ∷ begin_array ∷ []) ++ map string texts) ++ end_array ∷ []

-- the contents of sources, where they are asked for
abbrev pub content_tokens : Bool → List MapSource → List Token
content_tokens has_contents sources =
    if has_contents
    then array_tokens (codes "sourcesContent") (map (λ source. source.content.now) sources) else []

-- a map
abbrev pub map_tokens : List MapSource → Bool → List (List ℕ) → List ℕ → List Token
map_tokens sources has_contents names mappings =
    (begin_object ∷ key (codes "version") ∷ number (decimal 3) ∷ [])
    ++ array_tokens (codes "sources") (map (λ source. source.path.now) sources)
    ++ content_tokens has_contents sources
    ++ (key (codes "mappings") ∷ string mappings ∷ [])
    ++ array_tokens (codes "names") names
    ++ end_object ∷ []
