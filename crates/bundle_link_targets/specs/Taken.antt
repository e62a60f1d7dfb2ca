-- What is taken of externals and of CommonJS modules.
use Rattle.std.specs.Prelude.{◌≡◌, ◌↔◌, ℕ, Bool, IsTrue, List, [], ◌∷◌, Option, Some, None, Contains, bytes_eq, filter_map, map, slice_get, if◌then◌else◌}
use Rattle.std.specs.Borrow.{Bor}
use Rattle.std.specs.List.{All, IsDistinct, flat_map}
use Rattle.std.specs.Global.{Global}
use Rattle.std.specs.declared.vec.Vec.{Vec}
use Rattle.indexmap.specs.IndexMap.{IndexMap, get_by}
use Rattle.bundle_link_targets.specs.contracts.taken.GiverPartialEq.TheImpl as giver_impl
use Rattle.bundle_rules.specs.Nodes.{Text, numbers_once}
use Rattle.bundle_rules.specs.Bundle.{AreNames}
use Rattle.bundle_rules.specs.Entries as e
use Rattle.bundle_rules.specs.Entries.{Named, Whole}
use Rattle.bundle_rules.specs.Linking as l
use Rattle.bundle_link_index.specs.Given.{IsIn}
use Rattle.bundle_link_index.specs.Handed.{externals_by}
use Rattle.bundle_link_index.specs.Leads.{flagged, lead_of, required_of}
use Rattle.bundle_link_index.specs.Said.{Lead, Outside, ToModule, ToCommonJs, Nowhere}
use Rattle.bundle_link_index.specs.declared.kinds.Kinds.{Kinds}
use Rattle.bundle_link_tables.specs.declared.table.Source.{Source}
use Rattle.bundle_link_index.specs.declared.target.LinkModule.{LinkModule}
use Rattle.bundle_link_targets.specs.declared.target.External.{External}
use Rattle.bundle_link_targets.specs.declared.target.Loaded.{Loaded}
use Rattle.bundle_link_targets.specs.declared.taken.Giver.{Giver}
use Rattle.bundle_link_targets.specs.declared.taken.Giver.TheVariants as g

-- the externals that a module asks for, if it is there
abbrev pub outside_in : Option LinkModule → List Text
outside_in None = []
outside_in (Some its) = externals_by its

-- those of the modules with these numbers
abbrev pub outside_of : List LinkModule → List ℕ → List Text
outside_of modules list = flat_map (λ m. outside_in (slice_get modules m)) list

-- the text of an external
abbrev pub specifier_of : External → Text
specifier_of external = external.specifier.now

-- the target that this of a giver is
abbrev pub target_from_giver : Giver → e.Taken → l.Target
target_from_giver (g.External specifier) taken = l.External specifier.now taken
target_from_giver (g.CommonJs taker m) taken = l.CommonJs taker m taken

-- a target is this name of a giver, or none of it
abbrev pub IsNameFrom : Giver → l.Target → Option (Bor Text) → Type 0
IsNameFrom giver target None = (x : Text) → target ≡ target_from_giver giver (Named x) → ⊥
IsNameFrom giver target (Some x) = target ≡ target_from_giver giver (Named x.now)

-- the items of a list of names, if it is there
abbrev pub name_list : Option (Vec (Bor Text) Global) → List (Bor Text)
name_list None = []
name_list (Some list) = list.items

-- the names that a table has for a giver
abbrev pub names_for :
    {S : Type 0} → IndexMap Giver (Vec (Bor Text) Global) S → Giver → List (Bor Text)
names_for names giver = name_list (get_by (giver_impl.ghosts.eq giver) names)

-- a name for one giver is one for another if they are the same
abbrev pub given_to_giver : Giver → Giver → Bor Text → List (Bor Text)
given_to_giver giver other name = if giver_impl.ghosts.eq giver other then name ∷ [] else []

-- these are the names of a giver among targets, each once
pub record HoldNames
    (giver : Giver) (targets : List l.Target) (names : List (Bor Text)) : Type 0 where
  pub there : (x : Text) →
      Contains targets (target_from_giver giver (Named x)) →
      Contains (map (λ name. name.now) names) x
  pub right : (x : Text) →
      Contains (map (λ name. name.now) names) x →
      Contains targets (target_from_giver giver (Named x))
  pub once : IsDistinct (λ x y. bytes_eq x.now y.now) names

-- a table has them of each giver
abbrev pub AreAllNames :
    {S : Type 0} → List l.Target → IndexMap Giver (Vec (Bor Text) Global) S → Type 0
AreAllNames targets names = (giver : Giver) → HoldNames giver targets (names_for names giver)

-- of what is taken these names are among the targets, ascending, and whether the whole is
pub record AreTaken
    (Has : l.Target → Type 0) (of : e.Taken → l.Target) (texts : List Text)
    (all : Bool) : Type 0 where
  pub names : AreNames (λ x. Has (of (Named x))) texts
  pub whole : IsTrue all ↔ Has (of Whole)

-- the same of an external
abbrev pub IsExternal : List l.Target → External → Type 0
IsExternal targets external =
    AreTaken (IsIn targets) (l.External external.specifier.now)
    (map (λ name. name.now) external.names.items) external.whole

-- CommonJS modules.

-- a number, if it is there and passes the test
abbrev pub kept_if : (ℕ → Bool) → Option ℕ → Option ℕ
kept_if test None = None
kept_if test (Some c) = if test c then Some c else None

-- the CommonJS module to which a source of m leads
abbrev pub module_loaded_by : Kinds → ℕ → Source → Option ℕ
module_loaded_by kinds m source =
    if source.is_external
    then None
    else kept_if (flagged kinds.common_js.items)
    (required_of kinds.modules.now m source.specifier.now)

-- those to which the sources of m lead, if it is there
abbrev pub loads_by : Kinds → ℕ → Option LinkModule → List ℕ
loads_by kinds m None = []
loads_by kinds m (Some its) = filter_map (module_loaded_by kinds m) its.tables.now.sources.items

abbrev pub loads_in : Kinds → ℕ → List ℕ
loads_in kinds m = loads_by kinds m (slice_get kinds.modules.now m)

-- what of a CommonJS module is meant in m
abbrev pub IsLoad : List l.Target → ℕ → Loaded → Type 0
IsLoad targets m loaded =
    AreTaken (IsIn targets) (l.CommonJs m loaded.which) (map (λ name. name.now) loaded.names.items)
    loaded.whole

-- all that m loads
pub record AreLoadsOf
    (kinds : Kinds) (targets : List l.Target) (m : ℕ) (loads : List Loaded) : Type 0 where
  pub modules : map (λ loaded. loaded.which) loads ≡ numbers_once (loads_in kinds m)
  pub taken : All (IsLoad targets m) loads

-- Stars of externals.

-- a star that leads to an external
abbrev pub starred_as : Lead → Text → List Text
starred_as Outside s = s ∷ []
starred_as (ToModule d) s = []
starred_as (ToCommonJs c) s = []
starred_as Nowhere s = []

abbrev pub starred_one : (Text → Lead) → Bor Text → List Text
starred_one lead star = starred_as (lead star.now) star.now

-- the externals that a module stars, if it is there
abbrev pub starred_at : (Text → Lead) → Option LinkModule → List Text
starred_at lead None = []
starred_at lead (Some its) = flat_map (starred_one lead) its.tables.now.stars.items

abbrev pub starred_in : Kinds → ℕ → List Text
starred_in kinds m = starred_at (lead_of kinds m) (slice_get kinds.modules.now m)

-- `Picks Has all picked`: of these, those that `Has` holds of, in their order
pub data PicksThose {A : Type 0} (Has : A → Type 0) : List A → List A → Type 0 where
  nothing : PicksThose Has [] []
  picked : {x : A} {xs ys : List A} → Has x → PicksThose Has xs ys →
      PicksThose Has (x ∷ xs) (x ∷ ys)
  left : {x : A} {xs ys : List A} → (Has x → ⊥) → PicksThose Has xs ys → PicksThose Has (x ∷ xs) ys
