-- Modules that import each other in a circle.
use Rattle.std.specs.Prelude.{◌≡◌, ℕ, ◌<◌, List, [], ◌∷◌, ◌++◌, Option, None, Some, length, drop, slice_get, slice_index}
use Rattle.gutsirava_sources.specs.declared.outline.RequestForm.{RequestForm}
use Rattle.gutsirava_sources.specs.declared.outline.RequestForm.TheVariants.{Import, Require, Dynamic}
use Rattle.gutsirava_graph.specs.declared.unit.BundleUnit.{BundleUnit}
use Rattle.gutsirava_graph.specs.declared.unit.UnitLink.{UnitLink}
use Rattle.std.specs.declared.alloc.Global.{Global}
use Rattle.std.specs.declared.vec.Vec.{Vec}

-- a link of a module
abbrev pub link_of : Option BundleUnit → ℕ → Option UnitLink
link_of None number = None
link_of (Some it) number = slice_get it.links.items number

-- where a link leads that is an import
abbrev pub import_by : RequestForm → Option ℕ → Option ℕ
import_by Import target = target
import_by Require target = None
import_by Dynamic target = None

abbrev pub import_of : Option UnitLink → Option ℕ
import_of None = None
import_of (Some link) = import_by link.asking link.target

-- the link of this number of a module is an import, and leads to another module
abbrev pub IsImportAt : List BundleUnit → ℕ → ℕ → ℕ → Type 0
IsImportAt units from number to = import_of (link_of (slice_get units from) number) ≡ Some to

-- some link of a module is an import of another
abbrev pub IsImport : List BundleUnit → ℕ → ℕ → Type 0
IsImport units from to = (number : ℕ) × IsImportAt units from number to

-- each module imports the next one
abbrev pub IsWalk : List BundleUnit → List ℕ → Type 0
IsWalk units [] = Unit {0}
IsWalk units (first ∷ []) = Unit {0}
IsWalk units (first ∷ second ∷ rest) = IsImport units first second × IsWalk units (second ∷ rest)

-- each module imports the next one, and the last one is the first
pub record IsCircle (units : List BundleUnit) (circle : List ℕ) : Type 0 where
  pub first : ℕ
  pub between : List ℕ
  pub closed : circle ≡ (first ∷ between) ++ first ∷ []
  pub walk : IsWalk units circle

abbrev pub IsCircleOf : List BundleUnit → Vec ℕ Global → Type 0
IsCircleOf units circle = IsCircle units circle.items

-- what of a path stands from a place of the module on, and the module
pub record ClosesPath (path : List ℕ) (target : ℕ) (circle : List ℕ) : Type 0 where
  pub at : ℕ
  pub within : at < length path
  pub begins : slice_index path at ≡ target
  pub whole : circle ≡ drop at path ++ target ∷ []
