-- Blocks that are modules alone or cycles, in the order of a list.
use Rattle.std.specs.Prelude.{ℕ, Bool, true, false, List, [], ◌∷◌, Option, Some, None, slice_get, if◌then◌else◌}
use Rattle.bundle_order_sort.specs.Places.{is_list_end}

-- modules, and whether they are a cycle
abbrev pub MergedMembers : Type 0
MergedMembers = List ℕ × Bool

-- the modules of a list that are on no cycle, each alone, and each cycle at its last module, where
-- a test tells which modules are on one
abbrev pub merged : (ℕ → Bool) → List ℕ → List (List ℕ) → List MergedMembers
merged is_on [] cycles = []
merged is_on (m ∷ list) [] =
    if is_on m then merged is_on list [] else (m ∷ [], false) ∷ merged is_on list []
merged is_on (m ∷ list) (cycle ∷ cycles) =
    if is_on m
    then
    (if is_list_end m cycle
    then (cycle, true) ∷ merged is_on list cycles
    else merged is_on list (cycle ∷ cycles))
    else (m ∷ [], false) ∷ merged is_on list (cycle ∷ cycles)

-- whether a module is the last of what may be a list
abbrev pub ends_some : ℕ → Option (List ℕ) → Bool
ends_some m None = false
ends_some m (Some cycle) = is_list_end m cycle

-- whether a module is the last of the list with this number
abbrev pub ends_list_at : ℕ → List (List ℕ) → ℕ → Bool
ends_list_at m cycles next = ends_some m (slice_get cycles next)
