-- What each stage of judging looks at, by the modules that are linked.
use Rattle.std.specs.Prelude.{◌≡◌, ℕ, false, Option, Some, None}
use Rattle.bundle_tree_names.specs.FileName.{Name}
use Rattle.bundle_rules.specs.Nodes.{Text}
use Rattle.bundle_rules.specs.Entries.{is_script}
use Rattle.bundle_rules.specs.Linking.{IsModule}
use Rattle.bundle_rules.specs.Program.{Program, tree_of}
use Rattle.bundle_rules.specs.Faults as g
use Rattle.bundle_rules.specs.Faults.{NameFault}
use Rattle.bundle_link_tables.specs.declared.table.AskedName.{AskedName}
use Rattle.bundle_link_index.specs.declared.kinds.Kinds.{Kinds}
use Rattle.bundle_link_index.specs.Programs.{AreModulesKnown}
use Rattle.bundle_link_targets.specs.declared.target.LinkFault.{LinkFault}
use Rattle.bundle_link_targets.specs.declared.faults.Stage.{Stage}
use Rattle.bundle_link_targets.specs.declared.faults.Stage.TheVariants as s
use Rattle.bundle_link_targets.specs.Judged.{fault_says}

-- modules with their kinds are those of the program, and so is whether the bundle is one function's
-- call
pub record AreKindsOf (p : Program) (kinds : Kinds) : Type 0 where
  pub modules : AreModulesKnown p kinds
  pub iife : p.settings.iife ≡ kinds.setting.iife

-- the number of a stage
abbrev pub stage_of : Stage → ℕ
stage_of s.Entries = 0
stage_of s.Modules = 1
stage_of s.Awaits = 3
stage_of s.Stars = 4
stage_of s.Externals = 7
stage_of s.Arguments = 8

-- in a module the text leads to a module that is no script
pub record LeadsToEs (p : Program) (m : ℕ) (specifier : Text) : Type 0 where
  pub other : ℕ
  pub leads : p.leads m specifier ≡ Some other
  pub es : is_script (tree_of p other) ≡ false

-- what is wrong with the name x of an ES module d that m asks for
pub record IsWrong (p : Program) (m d : ℕ) (x : Text) (fault : LinkFault) : Type 0 where
  pub here : fault.which ≡ m
  pub wrong : (file : Name) → NameFault p d x file (fault_says file fault)

-- what is wrong with it, or none where nothing is
abbrev pub IsWrongIn : Program → ℕ → ℕ → Text → Option LinkFault → Type 0
IsWrongIn p m d x None = (file : Name) (f : g.Fault) → NameFault p d x file f → ⊥
IsWrongIn p m d x (Some fault) = IsWrong p m d x fault

-- what is wrong with the name x that m asks for by a specifier, or none where nothing is
abbrev pub IsWrongBy : Program → ℕ → Text → Text → Option LinkFault → Type 0
IsWrongBy p m specifier x None = (d : ℕ) → IsModule p m specifier d → IsWrongIn p m d x None
IsWrongBy p m specifier x (Some fault) = (d : ℕ) × IsModule p m specifier d × IsWrong p m d x fault

-- nothing is wrong with a name of a table
abbrev pub IsNameRight : Program → ℕ → AskedName → Type 0
IsNameRight p m its = IsWrongBy p m its.specifier.now its.name.now None
