-- What is known of a program by the modules' own numbers, and of the same program where modules are
-- numbered by their places in its list.
use Rattle.std.specs.Prelude.{◌≡◌, ℕ, List, Some, Contains}
use Rattle.bundle_tree_names.specs.FileName.{Name as FileName}
use Rattle.bundle_rules.specs.Nodes.{Text}
use Rattle.bundle_rules.specs.Judging.{requests_in}
use Rattle.bundle_order_graph.specs.Modules.{Modules, deps}
use Rattle.bundle_rules.specs.Program.{Program, tree_of, requested, IsReached, IsList}
use Rattle.bundle_rules.specs.Faults.{IsFaultless, IsFaultlessProgram}
use Rattle.bundle_link_targets.specs.Meant.{AreModules}
use Rattle.bundle_link.specs.Alike.{IsAlike, IsModuleAt}
use Rattle.bundle_merge_theory.specs.fit.Programs.{HasFitTrees}

-- each request of a reached module leads to a module
abbrev pub LeadsAll : Program → Type 0
LeadsAll p =
    (m : ℕ) (s : Text) →
    IsReached p m →
    Contains (requests_in p.settings (tree_of p m)) s →
    (d : ℕ) × (p.leads m s ≡ Some d)

-- the second program is the first by the places of this list, and a graph has the requests of the
-- first
pub record IsByPlaces (p q : Program) (ids : List ℕ) (g : Modules) : Type 0 where
  pub is_list : IsList p ids
  pub alike : IsAlike p q (IsModuleAt ids)
  pub graph : (m : ℕ) → IsReached p m → deps g m ≡ requested p m

-- no program fault and no fault of a tree by itself is there, each request leads to a module, trees
-- are fit, and the second program is the first by the places of this list
pub record AreKnown (p q : Program) (ids : List ℕ) : Type 0 where
  pub is_list : IsList p ids
  pub faultless : IsFaultlessProgram p
  pub trees : (m : ℕ) → IsReached p m → (file : FileName) × IsFaultless file (tree_of p m)
  pub leads : LeadsAll p
  pub fit : HasFitTrees p
  pub alike : IsAlike p q (IsModuleAt ids)
  pub modules : AreModules q
