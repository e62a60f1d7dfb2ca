-- Which fault of modules is the first, where they are listed by their numbers.
use Rattle.std.specs.Prelude.{ℕ, ◌<◌}
use Rattle.bundle_tree_names.specs.FileName.{Name}
use Rattle.bundle_rules.specs.Program.{Program}
use Rattle.bundle_rules.specs.Faults.{Fault, ProgramFault, JudgedNotAfter}

-- a fault of module m, as it is told of a file, is the first in the order of judging among the
-- first n modules, which stand in their order
pub record IsFirstOf (q : Program) (n m : ℕ) (says : Name → Fault) : Type 0 where
  pub within : m < n
  pub stage : ℕ
  pub place : ℕ
  pub there : (file : Name) → ProgramFault q file m stage place (says file)
  pub first : (j other its : ℕ) (file : Name) (f : Fault) →
      j < n →
      ProgramFault q file j other its f →
      JudgedNotAfter stage m place other j its

-- none of the first n modules has a fault
abbrev pub HasNoFault : Program → ℕ → Type 0
HasNoFault q n =
    (j stage place : ℕ) (file : Name) (f : Fault) → j < n → ProgramFault q file j stage place f → ⊥
