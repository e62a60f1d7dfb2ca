-- What a contract sees of a set and a map: what it sees of those of `indexmap`, whose words and
-- lemmas serve here too.
use Rattle.std.specs.Prelude.{ℕ, List, [], ◌∷◌, map, Option, Some, None}
use Rattle.std.specs.declared.alloc.Global.{Global}
use Rattle.std.specs.declared.vec.Vec.{Vec}
use Rattle.indexmap.specs.IndexMap.{IndexMap}
use Rattle.indexmap.specs.IndexSet.{IndexSet}
use Rattle.indexmap.specs.Layout.{hash_map, key_set}

-- keys with their values, as far as both go
abbrev pub pairs : {K V : Type 0} → List K → List V → List (K × V)
pairs [] vs = []
pairs (k ∷ ks) [] = []
pairs (k ∷ ks) (v ∷ vs) = (k, v) ∷ pairs ks vs

abbrev pub map_of : {K V : Type 0} → List K → List V → IndexMap K V ℕ
map_of keys values = hash_map (pairs keys values) 0 0

abbrev pub set_of : {K : Type 0} → List K → IndexSet K ℕ
set_of keys = key_set (hash_map (map (λ k. (k, tt {0})) keys) 0 0)

-- the items of a list, if it is there
abbrev pub list_of : {T : Type 0} → Option (Vec T Global) → List T
list_of None = []
list_of (Some list) = list.items
