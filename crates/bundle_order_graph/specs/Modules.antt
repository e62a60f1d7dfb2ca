-- What a contract sees of a graph of modules.
use Rattle.std.specs.Prelude.{◌≡◌, ◌≢◌, ℕ, List, [], Contains, length}
use Rattle.bundle_order_graph.specs.Nodes.{added, beside}

-- the modules, and at the same place in the other list those that each of them requests; both in
-- the order of adding
pub record Modules : Type 0 where
  pub nodes : List ℕ
  pub requests : List (List ℕ)

-- a graph with no module
abbrev pub no_modules : Modules
no_modules = record { nodes = []; requests = [] }

-- the modules that n requests; none, if n is not there
abbrev pub deps : Modules → ℕ → List ℕ
deps g n = beside g.nodes g.requests n

-- a requests b
abbrev pub Requests : Modules → ℕ → ℕ → Type 0
Requests g a b = Contains (deps g a) b

-- new is old with the module n, which requests nothing if it is new
pub record AddsNode (old new : Modules) (n : ℕ) : Type 0 where
  pub nodes : new.nodes ≡ added old.nodes n
  pub same : (m : ℕ) → deps new m ≡ deps old m

-- new is old with both modules, and the first requests the second
pub record AddsEdge (old new : Modules) (from to : ℕ) : Type 0 where
  pub nodes : new.nodes ≡ added (added old.nodes from) to
  pub requests : deps new from ≡ added (deps old from) to
  pub others : (m : ℕ) → m ≢ from → deps new m ≡ deps old m

-- each module has its list, and what a module requests is a module
pub record IsWhole (g : Modules) : Type 0 where
  pub len : length g.requests ≡ length g.nodes
  pub closed : (n m : ℕ) → Requests g n m → Contains g.nodes m
