-- What the sort of all items makes of them.
use Rattle.std.specs.Prelude.{◌≡◌, ℕ, ◌↔◌, Bool, true, not, List, ◌++◌, Contains, map, filter}
use Rattle.bundle_syntax.specs.Item.{Item}
use Rattle.bundle_order_graph.specs.Modules.{Modules, Requests}
use Rattle.bundle_order_graph.specs.Walks.{Reaches}
use Rattle.bundle_rules.specs.Parts.{Owned, Parts, in_order, parts_of}
use Rattle.bundle_rules.specs.Sorting.{IsSortedFrom}

-- each module that has an item is reached from the entry
abbrev pub AreReached : Modules → ℕ → Parts → Type 0
AreReached g entry parts =
    (pair : Owned) → Contains (in_order parts) pair → Reaches (Requests g) entry pair.0

-- all items are the entry's body: those of the modules that it reaches, sorted over this graph, and
-- then the others as they stood
pub record IsSortedWhole (g : Modules) (entry : ℕ) (before after : Parts) : Type 0 where
  pub is_reached : ℕ → Bool
  pub reached : (m : ℕ) → (is_reached m ≡ true) ↔ Reaches (Requests g) entry m
  pub sorted : List (List Item)
  pub is :
      after
      ≡ parts_of entry
      (sorted
      ++ map (λ pair. pair.1) (filter (λ pair. not (is_reached pair.0)) (in_order before)))
  pub sorts : IsSortedFrom g entry (in_order before) sorted
