-- A table of the places of items by module.
use Rattle.std.specs.Prelude.{◌≡◌, ℕ, List, length, map}
use Rattle.bundle_order_graph.specs.Nodes.{beside}
use Rattle.bundle_order_sort.specs.declared.table.Table.{Table}
use Rattle.bundle_order_sort.specs.Places.{places_of}

-- what the table has for a module
abbrev pub row : Table → ℕ → List ℕ
row table m = beside table.modules.keys (map (λ v. v.items) table.rows.items) m

-- it has the places of the items of each module
pub record AreRows (table : Table) (owners : List ℕ) : Type 0 where
  pub len : length table.rows.items ≡ length table.modules.keys
  pub rows : (m : ℕ) → row table m ≡ places_of owners m
