-- How numbers stand for the entries and stars of tables.
use Rattle.std.specs.Prelude.{◌≡◌, ◌≢◌, ℕ, suc, List, [], ◌∷◌, ◌++◌, Option, Some, None, Contains, map, filter_map, slice_get}
use Rattle.std.specs.Borrow.{Bor}
use Rattle.bundle_rules.specs.Nodes.{Text}
use Rattle.bundle_rules.specs.Statements.{default_name}
use Rattle.bundle_rules.specs.Entries.{ImportEntry}
use Rattle.bundle_link_tables.specs.TablesOf.{export_entry_of, import_entry_of}
use Rattle.bundle_link_tables.specs.declared.table.Export.{Export}
use Rattle.bundle_link_tables.specs.declared.table.Tables.{Tables}
use Rattle.bundle_link_index.specs.declared.links.Links.{Links}
use Rattle.bundle_link_index.specs.declared.links.OwnLink.{OwnLink}
use Rattle.bundle_link_index.specs.Graph.{Graph, graph_of, own_of}
use Rattle.bundle_link_index.specs.declared.target.LinkModule.{LinkModule}
use Rattle.bundle_link_index.specs.declared.kinds.Kinds.{Kinds}
use Rattle.bundle_link_index.specs.declared.numbers.LinkNumbers.{LinkNumbers}
use Rattle.bundle_link_index.specs.Linked.{Value}
use Rattle.bundle_link_index.specs.Said.{Lead, Outside, ToModule, ToCommonJs, Nowhere, Said, said_of, IsSaidNumber}
use Rattle.bundle_link_index.specs.Leads.{lead_of}
use Rattle.bundle_link_index.specs.Says.{value_of}

-- the names and the values, each at its number
abbrev pub index_names : LinkNumbers → List Text
index_names numbers = map (λ name. name.now) numbers.names.keys

abbrev pub values_of : LinkNumbers → List Value
values_of numbers = map value_of numbers.given.keys

-- no two numbers stand for one
abbrev pub HasNoDoubles : {V : Type 0} → List V → Type 0
HasNoDoubles {V = V} list =
    (i j : ℕ) (x : V) → slice_get list i ≡ Some x → slice_get list j ≡ Some x → i ≡ j

-- there is more: what has a number keeps it
pub record IsMore {V : Type 0} (old new : List V) : Type 0 where
  pub stays : (i : ℕ) (x : V) → slice_get old i ≡ Some x → slice_get new i ≡ Some x
  pub once : HasNoDoubles old → HasNoDoubles new

-- one more, which has this number
pub record Inserts {V : Type 0} (old new : List V) (x : V) (n : ℕ) : Type 0 where
  pub more : IsMore old new
  pub at : slice_get new n ≡ Some x

-- more names and values
pub record HasMoreNumbers (old new : LinkNumbers) : Type 0 where
  pub names : IsMore (index_names old) (index_names new)
  pub values : IsMore (values_of old) (values_of new)

-- the number of a name of a module, where it has one
abbrev pub IsNameSpot : List Text → ℕ → Text → Option (ℕ × ℕ) → Type 0
IsNameSpot names m x None = (n : ℕ) → slice_get names n ≡ Some x → ⊥
IsNameSpot names m x (Some at) = (at.0 ≡ m) × (slice_get names at.1 ≡ Some x)

-- an entry of a module: its name, and what it says
pub record NotedEntry : Type 0 where
  pub which : ℕ
  pub name : Text
  pub said : Said

-- what an export of a module says, where these are its imports
abbrev pub note : (Text → Lead) → ℕ → List ImportEntry → Export → NotedEntry
note lead m imports export =
    record
    { which = m; name = export.name.now; said = said_of lead m imports (export_entry_of export) }

-- what the exports of a module say
abbrev pub notes_of : (Text → Lead) → ℕ → Tables → List NotedEntry
notes_of lead m tables =
    map (note lead m (map import_entry_of tables.imports.items)) tables.exports.items

-- the same of modules, which begin with this number
abbrev pub all_notes : (ℕ → Text → Lead) → ℕ → List LinkModule → List NotedEntry
all_notes lead m [] = []
all_notes lead m (its ∷ rest) = notes_of (lead m) m its.tables.now ++ all_notes lead (suc m) rest

-- the module to which a specifier leads
abbrev pub module_in : Lead → Option ℕ
module_in (ToModule d) = Some d
module_in Outside = None
module_in (ToCommonJs c) = None
module_in Nowhere = None

-- the modules that a module stars
abbrev pub starred : (Text → Lead) → List (Bor Text) → List ℕ
starred lead stars = filter_map (λ star. module_in (lead star.now)) stars

-- the same of modules, which begin with this number
abbrev pub all_starred : (ℕ → Text → Lead) → ℕ → List LinkModule → List (List ℕ)
all_starred lead m [] = []
all_starred lead m (its ∷ rest) =
    starred (lead m) its.tables.now.stars.items ∷ all_starred lead (suc m) rest

-- own entries stand for these and no others, and the stars are these
pub record HoldsEntries
    (noted : List NotedEntry) (lists : List (List ℕ)) (names : List Text) (values : List Value)
    (g : Graph) : Type 0 where
  pub own : (m n : ℕ) (own : OwnLink) →
      own_of g (m, n) ≡ Some own →
      (entry : NotedEntry) × Contains noted entry × (entry.which ≡ m)
      × (slice_get names n ≡ Some entry.name) × IsSaidNumber names values entry.said own
  pub all : (entry : NotedEntry) →
      Contains noted entry →
      (n : ℕ) × (slice_get names n ≡ Some entry.name) × (own_of g (entry.which, n) ≢ None)
  pub stars : g.lists ≡ lists
  pub default : slice_get names g.default ≡ Some default_name
  pub one_name : HasNoDoubles names
  pub one_value : HasNoDoubles values

-- the same, of numbers and links
abbrev pub HoldsAt : List NotedEntry → List (List ℕ) → LinkNumbers → Links → Type 0
HoldsAt noted stars numbers links =
    HoldsEntries noted stars (index_names numbers) (values_of numbers) (graph_of links)

-- nothing has a number
pub record IsEmpty (numbers : LinkNumbers) : Type 0 where
  pub names : numbers.names.keys ≡ []
  pub values : numbers.given.keys ≡ []

-- the numbers stand for what all modules say and star
abbrev pub IsGraphNumbered : Kinds → List Text → List Value → Graph → Type 0
IsGraphNumbered kinds names values g =
    HoldsEntries (all_notes (lead_of kinds) 0 kinds.modules.now)
    (all_starred (lead_of kinds) 0 kinds.modules.now) names values g
