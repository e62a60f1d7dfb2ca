-- Which fault of linked modules is told, by the numbers of modules.
use Rattle.std.specs.Prelude.{◌≡◌, ◌≢◌, ℕ, List, Option, Some, None, Contains, slice_get}
use Rattle.bundle_tree_names.specs.FileName.{Name}
use Rattle.bundle_rules.specs.Program.{Program}
use Rattle.bundle_rules.specs.Faults as g
use Rattle.bundle_rules.specs.Faults.{JudgedNotAfter, ProgramFault}
use Rattle.bundle_link_targets.specs.Judged.{fault_says}
use Rattle.bundle_link_targets.specs.declared.target.LinkFault.{LinkFault}
use Rattle.bundle_link.specs.Alike.{IsModuleAt}

-- a fault of a listed module, told by its place among these numbers, is the first in the order of
-- judging; doubled declarations are not looked for
pub record IsFirstTold (p : Program) (ids list : List ℕ) (fault : LinkFault) : Type 0 where
  pub m : ℕ
  pub at : IsModuleAt ids m fault.which
  pub i : ℕ
  pub listed : slice_get list i ≡ Some m
  pub stage : ℕ
  pub checked : stage ≢ 2
  pub place : ℕ
  pub there : (file : Name) → ProgramFault p file m stage place (fault_says file fault)
  pub first : (j n other its : ℕ) (file : Name) (f : g.Fault) →
      other ≢ 2 →
      slice_get list j ≡ Some n →
      ProgramFault p file n other its f →
      JudgedNotAfter stage i place other j its

-- the fault that is told is the first, and none is told exactly where no listed module has one
abbrev pub IsFaultTold : Program → List ℕ → List ℕ → Option LinkFault → Type 0
IsFaultTold p ids list None =
    (n stage place : ℕ) (file : Name) (f : g.Fault) →
    stage ≢ 2 →
    Contains list n →
    ProgramFault p file n stage place f →
    ⊥
IsFaultTold p ids list (Some fault) = IsFirstTold p ids list fault
