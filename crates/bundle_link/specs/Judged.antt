-- When what is read of modules is that of a program, and what is told of them is its first fault.
use Rattle.std.specs.Prelude.{◌≡◌, ℕ, zero, suc, ◌<◌, ◌-◌, List, [], ◌∷◌, ◌++◌, Option, Some, None, Result, Ok, Err, length, slice_get}
use Rattle.std.specs.Option.{option_map}
use Rattle.bundle_tree_names.specs.FileName.{Name}
use Rattle.bundle_rules.specs.Scopes.{Cjs, Es, ModuleKind}
use Rattle.bundle_rules.specs.Declarations.{Declared}
use Rattle.bundle_rules.specs.Doubled.{first_doubled}
use Rattle.bundle_scope_denote.specs.Listed.{place_and_symbol, doubled_told}
use Rattle.bundle_scope_denote.specs.declared.table.Doubled.{Doubled}
use Rattle.bundle_rules.specs.Program.{Program, tree_of}
use Rattle.bundle_rules.specs.Meaning.{HasKind}
use Rattle.bundle_rules.specs.Faults.{Fault, DoubledDeclaration}
use Rattle.bundle_link_index.specs.Programs.{IsLinkProgram}
use Rattle.bundle_link_index.specs.declared.target.LinkModule.{LinkModule}
use Rattle.bundle_link_index.specs.declared.target.Setting.{Setting}
use Rattle.bundle_link_targets.specs.Judged.{fault_says}
use Rattle.bundle_link_targets.specs.Linked.{HandsOver, IsLinkingOf}
use Rattle.bundle_link_targets.specs.Meant.{AreModules, IsModuleTree}
use Rattle.bundle_link_targets.specs.declared.linking.Linking.{Linking}
use Rattle.bundle_link.specs.Default.{DeclaresDefaultAlone}
use Rattle.bundle_link.specs.First.{IsFirstOf, HasNoFault}
use Rattle.bundle_link.specs.declared.judging.DoubledNames.{DoubledNames}
use Rattle.bundle_link.specs.declared.judging.ModuleFault.{ModuleFault}
use Rattle.bundle_link.specs.declared.judging.ModuleFault.TheVariants as t

-- the numbers below n
abbrev pub numbers_below : ℕ → List ℕ
numbers_below zero = []
numbers_below (suc n) = numbers_below n ++ n ∷ []

-- the trees of a program are those of modules, and stand at the places below n
pub record AreTreesReadable (q : Program) (n : ℕ) : Type 0 where
  pub trees : (m : ℕ) → IsModuleTree (tree_of q m)
  pub default : (m : ℕ) → DeclaresDefaultAlone (tree_of q m)
  pub others : (m : ℕ) → (m < n → ⊥) → tree_of q m ≡ []

-- what is noted of a module as one of this kind
abbrev pub noted_as : ModuleKind → DoubledNames → Option Doubled
noted_as Es noted = noted.es
noted_as Cjs noted = noted.common_js

-- the first name is noted that a module of a program declares twice as what it is, and none where
-- it declares none twice
abbrev pub IsNotedOf : Program → ℕ → DoubledNames → Type 0
IsNotedOf q m noted = (kind : ModuleKind) → HasKind q m kind →
    option_map doubled_told (noted_as kind noted)
    ≡ option_map place_and_symbol (first_doubled kind (tree_of q m))

-- the same of the modules in turn
abbrev pub AreNotesOf : Program → List DoubledNames → Type 0
AreNotesOf q notes =
    (m : ℕ) (noted : DoubledNames) → slice_get notes m ≡ Some noted → IsNotedOf q m noted

-- the modules and what is noted of them are those of a program, the last of them that of the entry
pub record AreReadOf
    (q : Program) (modules : List LinkModule) (notes : List DoubledNames)
    (setting : Setting) : Type 0 where
  pub program :
      IsLinkProgram q modules (numbers_below (length modules)) (length modules - 1) setting.require
  pub iife : q.settings.iife ≡ setting.iife
  pub readable : AreTreesReadable q (length modules)
  pub long : length notes ≡ length modules
  pub noted : AreNotesOf q notes

-- the place of the module of a fault
abbrev pub fault_place : ModuleFault → ℕ
fault_place (t.Link fault) = fault.which
fault_place (t.Doubled m doubled) = m

-- what is told of the file of that module
abbrev pub says : ModuleFault → Name → Fault
says (t.Link fault) file = fault_says file fault
says (t.Doubled m doubled) file = DoubledDeclaration file doubled.name.now

-- the first of the faults is told, and none exactly where no module has one
abbrev pub TellsFirstFault : Program → ℕ → Option ModuleFault → Type 0
TellsFirstFault q n None = HasNoFault q n
TellsFirstFault q n (Some told) = IsFirstOf q n (fault_place told) (says told)

-- none of the modules, which stand in their order, has a fault, and what is linked, and what of it
-- is handed on, is theirs
pub record AreLinkedAs (q : Program) (n : ℕ) (linking : Linking) : Type 0 where
  pub faultless : HasNoFault q n
  pub modules : AreModules q
  pub linked : IsLinkingOf q linking
  pub handed : HandsOver q (numbers_below n) linking

-- modules are linked where none has a fault, and else the first is told
abbrev pub IsJudgedAs : Program → ℕ → Result Linking ModuleFault → Type 0
IsJudgedAs q n (Ok linking) = AreLinkedAs q n linking
IsJudgedAs q n (Err told) = TellsFirstFault q n (Some told)

-- none of the modules before the place declares a name twice
abbrev pub HasNoDoubled : Program → ℕ → Type 0
HasNoDoubled q n =
    (m : ℕ) (kind : ModuleKind) → m < n → HasKind q m kind → first_doubled kind (tree_of q m) ≡ None

-- the first module that declares a name twice, with the name
pub record IsFirstDoubled (q : Program) (n m : ℕ) (doubled : Doubled) : Type 0 where
  pub within : m < n
  pub kind : ModuleKind
  pub its_kind : HasKind q m kind
  pub declared : Declared
  pub there : first_doubled kind (tree_of q m) ≡ Some declared
  pub name : doubled.name.now ≡ declared.name.sym
  pub none_before : HasNoDoubled q m

-- it is told, and none where no module declares a name twice
abbrev pub TellsDoubled : Program → ℕ → Option ModuleFault → Type 0
TellsDoubled q n None = HasNoDoubled q n
TellsDoubled q n (Some (t.Link fault)) = ⊥
TellsDoubled q n (Some (t.Doubled m doubled)) = IsFirstDoubled q n m doubled
