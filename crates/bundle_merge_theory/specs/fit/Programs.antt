-- Programs whose modules' trees are lists of the form of trees.
use Rattle.std.specs.Prelude.{ℕ}
use Rattle.bundle_rules.specs.Program.{Program, tree_of, IsReached}
use Rattle.bundle_scope_names.specs.fit.Sorts.{AModule}
use Rattle.bundle_scope_names.specs.fit.Fits.{IsFit}

-- the trees of a program's modules are fit
pub record HasFitTrees (p : Program) : Type 0 where
  pub each : (m : ℕ) → IsReached p m → IsFit AModule 0 (tree_of p m)
