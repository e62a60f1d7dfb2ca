-- How a text tells where its map is.
use Rattle.std.specs.Prelude.{ℕ, List, [], ◌∷◌, ◌++◌, codes}
use Rattle.base64.specs.Engines.{standard}
use Rattle.base64.specs.GeneralPurpose.{encode_of}

-- the line that leads to the map at this URL (ECMA-426, 11.1.2.1)
abbrev pub link_text : List ℕ → List ℕ
link_text url = codes "//# sourceMappingURL=" ++ (url ++ 10 ∷ [])

-- the URL that holds a map itself (RFC 2397)
abbrev pub data_url_of : List ℕ → List ℕ
data_url_of map = codes "data:application/json;base64," ++ encode_of standard map
