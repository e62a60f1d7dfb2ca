-- What is owed by the tables of a module, by the modules that an entry reaches, and by a linker
-- that is asked (ECMA-262, 16.2.1.6.3 ResolveExport).
use Rattle.std.specs.Prelude.{◌≡◌, ◌≢◌, ℕ, ◌⊎◌, ◌↔◌, not, flat_map, Bool, true, false, IsTrue, List, [], ◌∷◌, Option, Some, None, Contains, filter}
use Rattle.std.specs.List.Sorted.{IsStrictlyIncreasing}
use Rattle.bundle_syntax.specs.Item.{Item}
use Rattle.bundle_tree_names.specs.FileName.{Name as FileName}
use Rattle.bundle_order_graph.specs.Modules.{Modules, Requests as Edges}
use Rattle.bundle_order_graph.specs.Walks.{Reaches}
use Rattle.bundle_rules.specs.Nodes.{Text, each_once}
use Rattle.bundle_rules.specs.Statements.{default_name}
use Rattle.bundle_rules.specs.Entries.{Settings, ImportEntry, ExportEntry, Star, imports_of, exports_of, requests_of}
use Rattle.bundle_rules.specs.Bound.{is_free}
use Rattle.bundle_rules.specs.Program.{Program, IsReached, IsList}
use Rattle.bundle_rules.specs.Linking.{IsCommonJs, Target, Namespace, Gives, Linked, IsMissing, Origin}
use Rattle.bundle_rules.specs.Meaning.{Of, IsMeant}
use Rattle.bundle_rules.specs.Faults.{Fault, IsFirstTreeFault, IsFaultless, ProgramFault, StarsExternal, Stands, JudgedNotAfter}

-- whether an entry is a star
abbrev pub is_star : ExportEntry → Bool
is_star (Star specifier) = true
is_star _ = false

-- the specifier of a star
abbrev pub star_of : ExportEntry → List Text
star_of (Star specifier) = specifier ∷ []
star_of _ = []

-- what a table of a module is answered with: it is given, or the tree is refused
pub data Table (A : Type 0) : Type 0 where
  Given : A → Table A
  RefusedBy : Fault → Table A

-- the three tables refuse the same trees, by the first fault of the tree, and otherwise give what
-- is asked for
abbrev pub IsTable : {A : Type 0} → FileName → List Item → A → Table A → Type 0
IsTable file tree right (Given found) = IsFaultless file tree × (found ≡ right)
IsTable file tree right (RefusedBy fault) = IsFirstTreeFault file tree fault

-- the table of requests, of imports, of exports with a name, and of stars, each once
abbrev pub IsRequestTable : Settings → FileName → List Item → Table (List Text) → Type 0
IsRequestTable settings file tree answer =
    IsTable file tree (requests_of settings (is_free tree) tree) answer

-- the table of imports
abbrev pub IsImportTable : FileName → List Item → Table (List ImportEntry) → Type 0
IsImportTable file tree answer = IsTable file tree (imports_of tree) answer

-- the table of exports: those with a name, and the stars, each once
abbrev pub IsExportTable : FileName → List Item → Table (List ExportEntry × List Text) → Type 0
IsExportTable file tree answer =
    IsTable file tree (
      filter (λ entry. not (is_star entry)) (exports_of tree),
      each_once (flat_map star_of (exports_of tree)),
    ) answer

-- Graphs of modules.

-- the modules that the entry reaches, ascending
pub record IsClosure (g : Modules) (entry : ℕ) (reached : List ℕ) : Type 0 where
  pub ascending : IsStrictlyIncreasing reached
  pub all : (n : ℕ) → Contains reached n ↔ Reaches (Edges g) entry n

-- Linking.

-- what a name of a module resolves to: one target; none; two; or none, where an external that is
-- starred may hold it
pub data Resolution : Type 0 where
  One : Target → Resolution
  Nothing : Resolution
  Two : Target → Target → Resolution
  ExternalStar : Resolution

-- two targets that count as two
pub record AreTwo (p : Program) (m : ℕ) (x : Text) (a b : Target) : Type 0 where
  pub of_a : Option Origin
  pub of_b : Option Origin
  pub gives_a : Gives p m x a of_a
  pub gives_b : Gives p m x b of_b
  pub differ : (a ≢ b) ⊎ (of_a ≢ of_b)

-- the answer for the name x of m
abbrev pub IsResolution : Program → ℕ → Text → Resolution → Type 0
IsResolution p m x (One t) = Linked p m x t
IsResolution p m x (Two a b) = AreTwo p m x a b
IsResolution p m x ExternalStar = IsMissing p m x × (x ≢ default_name) × StarsExternal p m
IsResolution p m x Nothing = IsMissing p m x × ((x ≡ default_name) ⊎ (StarsExternal p m → ⊥))

-- the answer whether a module is CommonJS, and whether the object of its namespace is meant
abbrev pub TellsCommonJs : Program → ℕ → Bool → Type 0
TellsCommonJs p m answer = IsTrue answer ↔ IsCommonJs p m

-- the answer whether the object of a module's namespace is meant
abbrev pub TellsMeant : Program → ℕ → Bool → Type 0
TellsMeant p m answer = IsTrue answer ↔ IsMeant p (Of (Namespace m))

-- the first of the faults that a linker checks: all of a program but doubled declarations
pub record IsFirstLinkFault (p : Program) (fault : Fault) : Type 0 where
  pub list : List ℕ
  pub is_list : IsList p list
  pub i : ℕ
  pub m : ℕ
  pub file : FileName
  pub stands : Stands p list i m file
  pub stage : ℕ
  pub checked : stage ≢ 2
  pub place : ℕ
  pub there : ProgramFault p file m stage place fault
  pub first : (j n other its : ℕ) (at : FileName) (f : Fault) →
      other ≢ 2 →
      Stands p list j n at →
      ProgramFault p at n other its f →
      JudgedNotAfter stage i place other j its

-- a check finds none exactly where none is there, and else the first
abbrev pub IsChecked : Program → Option Fault → Type 0
IsChecked p None =
    (m stage place : ℕ) (file : FileName) (f : Fault) →
    stage ≢ 2 →
    IsReached p m →
    ProgramFault p file m stage place f →
    ⊥
IsChecked p (Some fault) = IsFirstLinkFault p fault
