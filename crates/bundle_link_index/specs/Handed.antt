-- What is made of modules that are handed in to be linked.
use Rattle.std.specs.Prelude.{◌≡◌, ℕ, suc, ◌==◌, ◌&&◌, ◌||◌, not, Bool, List, [], ◌∷◌, Option, Some, None, filter_map, nat_eq, slice_get, if◌then◌else◌}
use Rattle.std.specs.List.{flat_map, list_any}
use Rattle.std.specs.BTreeMap.{get_by_text}
use Rattle.indexmap.specs.IndexSet.{IndexSet, contains}
use Rattle.bundle_rules.specs.Nodes.{Text}
use Rattle.bundle_link_tables.specs.declared.table.RequireCall.{RequireCall}
use Rattle.bundle_link_tables.specs.declared.table.Source.{Source}
use Rattle.bundle_link_index.specs.declared.target.LinkModule.{LinkModule}

-- what is asked for by these that is external
abbrev pub external_one : Source → List Text
external_one source = if source.is_external then source.specifier.now ∷ [] else []

abbrev pub externals_by : LinkModule → List Text
externals_by its = flat_map external_one its.tables.now.sources.items

abbrev pub externals_of : List LinkModule → List Text
externals_of modules = flat_map externals_by modules

-- the numbers of the modules to which the literal calls of a module lead
abbrev pub modules_called : LinkModule → RequireCall → Option ℕ
modules_called its call = get_by_text its.leads.now call.specifier.now

abbrev pub required_from : Option LinkModule → List ℕ
required_from None = []
required_from (Some its) = filter_map (modules_called its) its.tables.now.calls.items

-- those of all modules with these numbers
abbrev pub required_by : List LinkModule → List ℕ → List ℕ
required_by modules list = flat_map (λ m. required_from (slice_get modules m)) list

-- a set holds just these numbers
abbrev pub HoldsNumbers : {S : Type 0} → IndexSet ℕ S → List ℕ → Type 0
HoldsNumbers set ns = (n : ℕ) → contains nat_eq set n ≡ list_any (nat_eq n) ns

-- something of each module and its number; the numbers begin with this one
abbrev pub modules_numbered : {B : Type 0} → (ℕ → LinkModule → B) → ℕ → List LinkModule → List B
modules_numbered f m [] = []
modules_numbered f m (its ∷ rest) = f m its ∷ modules_numbered f (suc m) rest

-- whether a module is CommonJS, where these are required
abbrev pub is_kind : Bool → ℕ → List ℕ → ℕ → LinkModule → Bool
is_kind require entry required m its =
    require
    && (not (m == entry)
    && (its.tables.now.is_script
    && (its.tables.now.names_common_js || list_any (nat_eq m) required)))

-- the same of all modules
abbrev pub kinds_of : List LinkModule → List ℕ → ℕ → Bool → List Bool
kinds_of modules list entry require =
    modules_numbered (is_kind require entry (required_by modules list)) 0 modules
