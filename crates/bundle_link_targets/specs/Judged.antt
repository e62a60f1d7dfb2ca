-- Which fault of linking is first, in the words of the definitions.
use Rattle.std.specs.Prelude.{◌≡◌, ℕ, ◌<◌, ◌≤◌, List, Option, Some, None, slice_get}
use Rattle.bundle_tree_names.specs.FileName.{Name}
use Rattle.bundle_rules.specs.Nodes.{Text}
use Rattle.bundle_rules.specs.Program.{Program}
use Rattle.bundle_rules.specs.Faults as g
use Rattle.bundle_rules.specs.Faults.{JudgedNotAfter, ProgramFault}
use Rattle.bundle_link_targets.specs.declared.target.LinkFault.{LinkFault}
use Rattle.bundle_link_targets.specs.declared.target.FaultKind.{FaultKind}
use Rattle.bundle_link_targets.specs.declared.target.FaultKind.TheVariants as k

-- the fault of a file that is of this kind and tells this name
abbrev pub fault_by : FaultKind → Name → Text → g.Fault
fault_by k.RequiredEntry file name = g.RequiredEntry file name
fault_by k.RequiredEsModule file name = g.RequiredEsModule file name
fault_by k.AwaitInCommonJs file name = g.AwaitInCommonJs file
fault_by k.StarOfCommonJs file name = g.StarOfCommonJs file name
fault_by k.MissingExport file name = g.MissingExport file name
fault_by k.AmbiguousExport file name = g.AmbiguousExport file name
fault_by k.ExternalStarOnly file name = g.ExternalStarOnly file name
fault_by k.NamespaceOverExternalStar file name = g.NamespaceOverExternalStar file
fault_by k.ExternalUnderIife file name = g.ExternalUnderIife file name
fault_by k.ArgumentsUnderIife file name = g.ArgumentsUnderIife file

-- what a fault says of the file of its module
abbrev pub fault_says : Name → LinkFault → g.Fault
fault_says file fault = fault_by fault.kind file fault.name.now

-- no fault of the stage is in the module
abbrev pub HasNoStageFault : Program → ℕ → ℕ → Type 0
HasNoStageFault p stage m =
    (file : Name) (place : ℕ) (f : g.Fault) → ProgramFault p file m stage place f → ⊥

-- the first fault of the stage in the module
pub record IsFirstFaultIn (p : Program) (stage m : ℕ) (fault : LinkFault) : Type 0 where
  pub here : fault.which ≡ m
  pub place : ℕ
  pub there : (file : Name) → ProgramFault p file m stage place (fault_says file fault)
  pub least : (file : Name) (other : ℕ) (f : g.Fault) →
      ProgramFault p file m stage other f →
      place ≤ other

-- the first of the stage in the module, or none where it has none
abbrev pub IsFoundIn : Program → ℕ → ℕ → Option LinkFault → Type 0
IsFoundIn p stage m None = HasNoStageFault p stage m
IsFoundIn p stage m (Some fault) = IsFirstFaultIn p stage m fault

-- the first fault, in the order of judging, of the stages from one on and below another that listed
-- modules have
pub record IsFirst (p : Program) (list : List ℕ) (from below : ℕ) (fault : LinkFault) : Type 0 where
  pub i : ℕ
  pub listed : slice_get list i ≡ Some fault.which
  pub stage : ℕ
  pub begun : from ≤ stage
  pub ended : stage < below
  pub place : ℕ
  pub there : (file : Name) → ProgramFault p file fault.which stage place (fault_says file fault)
  pub first : (j n other its : ℕ) (file : Name) (f : g.Fault) →
      from ≤ other →
      other < below →
      slice_get list j ≡ Some n →
      ProgramFault p file n other its f →
      JudgedNotAfter stage i place other j its

-- the first of these stages among listed modules, or none where no listed module has one
abbrev pub IsStageJudged : Program → List ℕ → ℕ → ℕ → Option LinkFault → Type 0
IsStageJudged p list from below None =
    (j n stage place : ℕ) (file : Name) (f : g.Fault) →
    from ≤ stage →
    stage < below →
    slice_get list j ≡ Some n →
    ProgramFault p file n stage place f →
    ⊥
IsStageJudged p list from below (Some fault) = IsFirst p list from below fault
