-- Where the items of modules stand among all items, and which modules reach each other.
use Rattle.std.specs.Prelude.{ℕ, zero, suc, ◌+◌, ◌-◌, nat_eq, not, Bool, false, List, [], ◌∷◌, ◌++◌, Option, Some, None, length, map, slice_get, if◌then◌else◌}
use Rattle.std.specs.List.{list_any}
use Rattle.bundle_order_graph.specs.Modules.{Modules, Requests}
use Rattle.bundle_order_graph.specs.Walks.{Reaches}

-- the places of the items whose module passes a test, where these are the modules of items that are
-- counted from i on
abbrev pub places_where : ℕ → (ℕ → Bool) → List ℕ → List ℕ
places_where i test [] = []
places_where i test (owner ∷ owners) =
    if test owner then i ∷ places_where (i + 1) test owners else places_where (i + 1) test owners

-- the places of the items of a module, where these are the modules of all items
abbrev pub places_of : List ℕ → ℕ → List ℕ
places_of owners m = places_where 0 (λ owner. nat_eq owner m) owners

-- the places of the items of modules that are not in a list
abbrev pub left_of : List ℕ → List ℕ → List ℕ
left_of owners list = places_where 0 (λ owner. not (list_any (nat_eq owner) list)) owners

-- the numbers from n on, so many
abbrev pub numbers_from : ℕ → ℕ → List ℕ
numbers_from n zero = []
numbers_from n (suc count) = n ∷ numbers_from (suc n) count

-- for each item of several modules the number of its module, counted from k on
abbrev pub module_numbers_from : {X : Type 0} → ℕ → List (List X) → List ℕ
module_numbers_from k [] = []
module_numbers_from k (items ∷ rest) = map (λ item. k) items ++ module_numbers_from (k + 1) rest

-- modules reach each other
abbrev pub ReachEachOther : Modules → ℕ → ℕ → Type 0
ReachEachOther g m n = Reaches (Requests g) m n × Reaches (Requests g) n m

-- whether a module is in some of these lists
abbrev pub is_in_some : ℕ → List (List ℕ) → Bool
is_in_some m lists = list_any (λ list. list_any (nat_eq m) list) lists

-- whether it is the module at the end
abbrev pub is_it : ℕ → Option ℕ → Bool
is_it m None = false
is_it m (Some last) = nat_eq last m

-- whether a module is the last of a list
abbrev pub is_list_end : ℕ → List ℕ → Bool
is_list_end m list = is_it m (slice_get list (length list - 1))
