-- The modules from which a module has its names, over `export *`.
use Rattle.std.specs.Prelude.{◌≡◌, ℕ, ◌<◌, ◌||◌, Bool, false, List, [], ◌∷◌, ◌++◌, length, Option, Some, None, codes, nat_eq, slice_index, if◌then◌else◌}
use Rattle.std.specs.List.{All, Contains, IsDistinct, filter, list_any, slice_get}
use Rattle.std.specs.Str.{bytes_eq}
use Rattle.std.specs.BTreeSet.{contains_text}
use Rattle.gutsirava_graph.specs.declared.unit.BundleUnit.{BundleUnit}

-- whether a module gives a name by itself
abbrev pub gives_of : List ℕ → Option BundleUnit → Bool
gives_of name None = false
gives_of name (Some it) = contains_text it.table.names name

abbrev pub gives : List BundleUnit → List ℕ → ℕ → Bool
gives units name unit = gives_of name (slice_get units unit)

-- the modules all of whose names but `default` a module exports
abbrev pub stars_of : Option BundleUnit → List ℕ
stars_of None = []
stars_of (Some it) = it.table.stars.items

-- whether what a name is sought for ends at a module: that gives it, or its `default` is sought
abbrev pub ends_search : Option (List ℕ) → List BundleUnit → ℕ → Bool
ends_search None units unit = false
ends_search (Some name) units unit = bytes_eq name (codes "default") || gives units name unit

-- the modules in which a name is sought behind a module; of no name, all names are
abbrev pub followed : Option (List ℕ) → List BundleUnit → ℕ → List ℕ
followed sought units unit =
    if ends_search sought units unit then [] else stars_of (slice_get units unit)

-- a module in which a name is sought for another one
pub data Seeks (sought : Option (List ℕ)) (units : List BundleUnit) (start : ℕ) : ℕ → Type 0 where
  here : Seeks sought units start start
  over : (from to : ℕ) → Seeks sought units start from →
      Contains (followed sought units from) to → Seeks sought units start to

-- the modules that were met, and those behind the first ones of them
pub record IsMetUpTo (sought : Option (List ℕ)) (units : List BundleUnit) (start : ℕ)
    (met : List ℕ) (at : ℕ) : Type 0 where
  pub begins : Contains met start
  pub once : IsDistinct nat_eq met
  pub sought_there : All (Seeks sought units start) met
  pub closed : (k : ℕ) → k < at → All (Contains met) (followed sought units (slice_index met k))

-- the modules in which a name is sought for one, each once
abbrev pub AreMet : Option (List ℕ) → List BundleUnit → ℕ → List ℕ → Type 0
AreMet sought units start met = IsMetUpTo sought units start met (length met)

-- the modules that give a name for one by themselves, each once
pub record AreGivers (name : List ℕ) (units : List BundleUnit) (start : ℕ)
    (givers : List ℕ) : Type 0 where
  pub met : List ℕ
  pub are_met : AreMet (Some name) units start met
  pub give : givers ≡ filter (gives units name) met

-- a list of modules with one more, where it is not there
abbrev pub with_unit : List ℕ → ℕ → List ℕ
with_unit met unit = if list_any (nat_eq unit) met then met else met ++ unit ∷ []

abbrev pub with_units : List ℕ → List ℕ → List ℕ
with_units met [] = met
with_units met (unit ∷ units) = with_units (with_unit met unit) units
