-- Nodes in the order in which they were added, and lists that are kept beside them.
use Rattle.std.specs.Prelude.{ℕ, nat_eq, List, [], ◌∷◌, ◌++◌, if◌then◌else◌, slice_index_or}
use Rattle.std.specs.List.{list_any, position_or_len}

-- the nodes, once n is added: at the end, unless it is there
abbrev pub added : List ℕ → ℕ → List ℕ
added nodes n = if list_any (nat_eq n) nodes then nodes else nodes ++ n ∷ []

-- where n stands among the nodes; their number, if it is none of them
abbrev pub place : List ℕ → ℕ → ℕ
place nodes n = position_or_len (nat_eq n) nodes

-- of the lists beside the nodes, the one of n; an empty one, if n is no node
abbrev pub beside : {X : Type 0} → List ℕ → List (List X) → ℕ → List X
beside nodes lists n = slice_index_or lists (place nodes n) []
