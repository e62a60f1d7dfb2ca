-- When files with their numbers, and where the requests of each lead, are those of a program.
use Rattle.std.specs.Prelude.{◌≡◌, ℕ, ◌<◌, List, [], Some, Contains, length, map, slice_get, string_bytes}
use Rattle.std.specs.declared.alloc.Global.{Global}
use Rattle.std.specs.declared.string.String.{String}
use Rattle.std.specs.declared.vec.Vec.{Vec}
use Rattle.bundle_tree_names.specs.FileName.{name_of}
use Rattle.bundle_tree_names.specs.declared.file_name.FileName.{FileName}
use Rattle.bundle_rules.specs.Judging.{requests_in}
use Rattle.bundle_rules.specs.Program.{Program, file_of, tree_of}
use Rattle.bundle_link_index.specs.Numbered.{HasNoDoubles}
use Rattle.bundle_order_graph.specs.Modules.{Modules, deps as noted}
use Rattle.bundle_rules.specs.Nodes.{numbers_once}
use Rattle.bundle_link.specs.Leads.{Deps}
use Rattle.bundle_link.specs.declared.files.Files.{Files}

-- the number of a file
abbrev pub file_number : FileName × ℕ → ℕ
file_number file = file.1

-- the numbers of files, by their places
abbrev pub numbers_of : List (FileName × ℕ) → List ℕ
numbers_of files = map file_number files

-- these are the requests of a module, in their order, and each leads where it leads in the program,
-- to one of these modules
pub record IsLed (p : Program) (numbers : List ℕ) (m : ℕ) (deps : Deps) : Type 0 where
  pub asked : map (λ dep. string_bytes dep.0) deps ≡ requests_in p.settings (tree_of p m)
  pub leads : (dep : String Global × ℕ) →
      Contains deps dep →
      (p.leads m (string_bytes dep.0) ≡ Some dep.1) × Contains numbers dep.1

-- the files are those of the program under their numbers, which differ, and the requests of each
-- lead where they lead in the program, to files that are there
pub record AreFilesOf
    (p : Program) (files : List (FileName × ℕ))
    (deps : List (Vec (String Global × ℕ) Global)) : Type 0 where
  pub once : HasNoDoubles (numbers_of files)
  pub named : (place : ℕ) (e : FileName × ℕ) →
      slice_get files place ≡ Some e →
      file_of p e.1 ≡ Some (name_of e.0)
  pub long : length deps ≡ length files
  pub led : (place m : ℕ) (its : Vec (String Global × ℕ) Global) →
      slice_get (numbers_of files) place ≡ Some m →
      slice_get deps place ≡ Some its →
      IsLed p (numbers_of files) m its.items

-- the module to which a text leads
abbrev pub module_led_to : String Global × ℕ → ℕ
module_led_to dep = dep.1

-- of the first n modules just the requests are noted that lead from these numbers
pub record IsFileGraph
    (ids : List ℕ) (deps : List (Vec (String Global × ℕ) Global)) (n : ℕ)
    (graph : Modules) : Type 0 where
  pub own : (i m : ℕ) (its : Vec (String Global × ℕ) Global) →
      i < n →
      slice_get ids i ≡ Some m →
      slice_get deps i ≡ Some its →
      noted graph m ≡ numbers_once (map module_led_to its.items)
  pub others : (m : ℕ) → ((i : ℕ) → i < n → slice_get ids i ≡ Some m → ⊥) → noted graph m ≡ []

-- the files are those of the program, and their numbers and their requests are noted
pub record AreNotedOf (p : Program) (noted : Files) : Type 0 where
  pub files : AreFilesOf p noted.files.now noted.deps.now
  pub ids : noted.ids.keys ≡ numbers_of noted.files.now
  pub graph : IsFileGraph noted.ids.keys noted.deps.now (length noted.deps.now) noted.graph
