-- The graph of what items depend on.
use Rattle.std.specs.Prelude.{◌≡◌, ◌≢◌, ℕ, ◌<◌, ◌↔◌, ◌⊎◌, Bool, true, false, List, length, Some, None, Contains, slice_get}
use Rattle.bundle_order_graph.specs.Statements.{Statements, weight, IsDependency}
use Rattle.bundle_order_graph.specs.declared.sort.Required.{Required}
use Rattle.bundle_order_graph.specs.declared.sort.Required.TheVariants.{Always, Maybe}
use Rattle.bundle_order_sort.specs.declared.Dependency.{Dependency}
use Rattle.bundle_order_sort.specs.declared.SortItem.{SortItem}
use Rattle.bundle_order_sort.specs.Listed.{NamesListed, DependsListed}

-- the nodes are the numbers of so many items
abbrev pub AreItemNodes : Statements → ℕ → Type 0
AreItemNodes graph count = (n : ℕ) → Contains graph.nodes n ↔ (n < count)

-- no number stands twice among them
abbrev pub AreOnce : List ℕ → Type 0
AreOnce nodes = (i j n : ℕ) → slice_get nodes i ≡ Some n → slice_get nodes j ≡ Some n → i ≡ j

-- each edge leads from one of so many items to another
abbrev pub AreBetween : Statements → ℕ → Type 0
AreBetween graph count = (a b : ℕ) → IsDependency graph a b → (a < count) × (b < count) × (a ≢ b)

-- a requires b, and always does
abbrev pub IsAlways : Statements → ℕ → ℕ → Type 0
IsAlways graph a b = weight graph a b ≡ Some Always

-- how much a dependency is required that is weak or not
abbrev pub how_required : Bool → Required
how_required true = Maybe
how_required false = Always

-- the graph of these items: it has just their dependencies, and those always that are not weak
pub record IsItemGraph (graph : Statements) (items : List SortItem) : Type 0 where
  pub nodes : AreItemNodes graph (length items)
  pub once : AreOnce graph.nodes
  pub edges : (a b : ℕ) → IsDependency graph a b ↔ DependsListed items a b
  pub always : (a b : ℕ) → IsAlways graph a b ↔ NamesListed items a b false

-- What is computed of a graph on the way.

-- so many items that do not depend on each other
pub record AreIndependent (graph : Statements) (count : ℕ) : Type 0 where
  pub nodes : AreItemNodes graph count
  pub once : AreOnce graph.nodes
  pub none : (a b : ℕ) → weight graph a b ≡ None

-- of these dependencies of item s, one of so many, one that counts is on item t
pub record ListsDependency
    (Counts : Bool → Type 0) (dependencies : List Dependency) (count s t : ℕ) : Type 0 where
  pub is_weak : Bool
  pub counts : Counts is_weak
  pub listed : Contains dependencies (record { item = t; is_weak = is_weak })
  pub within : t < count
  pub other : t ≢ s

-- of the edges that `Leads` tells, new has those of old and from s one to each item that is listed
abbrev pub GainsEdges : (Statements → ℕ → ℕ → Type 0) → (Bool → Type 0) → Statements → Statements →
    ℕ → ℕ → List Dependency → Type 0
GainsEdges Leads Counts old new s count dependencies =
    (x y : ℕ) →
    Leads new x y ↔ (Leads old x y ⊎ ((x ≡ s) × ListsDependency Counts dependencies count s y))

-- new is old with these dependencies of item s, one of so many
pub record GrowsGraph
    (old new : Statements) (s count : ℕ) (dependencies : List Dependency) : Type 0 where
  pub nodes : AreItemNodes new count
  pub once : AreOnce old.nodes → AreOnce new.nodes
  pub edges : GainsEdges IsDependency (λ is_weak. Unit {0}) old new s count dependencies
  pub always : GainsEdges IsAlways (λ is_weak. is_weak ≡ false) old new s count dependencies
