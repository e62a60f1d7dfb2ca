-- What targets of externals and CommonJS modules are called.
use Rattle.std.specs.Prelude.{◌≡◌, ◌==◌, ◌&&◌, ◌++◌, ℕ, Bool, false, List, [], Option, Some, None, bytes_eq, filter_map, find, option_map, slice_get, unwrap_or, codes, IsTrue}
use Rattle.std.specs.Borrow.{Bor}
use Rattle.std.specs.List.{flat_map}
use Rattle.indexmap.specs.IndexMap.{IndexMap, get_by}
use Rattle.bundle_rules.specs.Nodes.{Text}
use Rattle.bundle_rules.specs.Entries as e
use Rattle.bundle_rules.specs.Linking as l
use Rattle.bundle_rules.specs.Symbols.{identifier_of, same_taken, symbol_of_target}
use Rattle.bundle_rules.specs.Program.{Program, is_external, IsReached}
use Rattle.bundle_link_tables.specs.TablesOf.{taken_of}
use Rattle.bundle_link_tables.specs.declared.table.Export.{Export}
use Rattle.bundle_link_tables.specs.declared.table.ImportRef.{ImportRef}
use Rattle.bundle_link_tables.specs.declared.table.Origin.{Origin}
use Rattle.bundle_link_tables.specs.declared.table.Origin.TheVariants as o
use Rattle.bundle_link_tables.specs.declared.table.Taken.{Taken}
use Rattle.bundle_link_tables.specs.declared.table.Taken.TheVariants as k
use Rattle.bundle_link_index.specs.contracts.target.TargetRefPartialEq.TheImpl as target_impl
use Rattle.bundle_link_index.specs.declared.kinds.Kinds.{Kinds}
use Rattle.bundle_link_index.specs.declared.target.LinkModule.{LinkModule}
use Rattle.bundle_link_index.specs.declared.target.TargetRef.{TargetRef}
use Rattle.bundle_link_index.specs.Leads.{lead_of}
use Rattle.bundle_link_index.specs.Said.{Lead, Outside, ToModule, ToCommonJs, Nowhere}
use Rattle.bundle_link_index.specs.Says.{target_of}

-- a target, and what something calls it
abbrev pub Called : Type 0
Called = l.Target × Text

-- whether two targets are the same
abbrev pub same_target : l.Target → l.Target → Bool
same_target (l.Declared m x) (l.Declared n y) = (m == n) && bytes_eq x y
same_target (l.Namespace m) (l.Namespace n) = m == n
same_target (l.External s taken) (l.External r other) = bytes_eq s r && same_taken taken other
same_target (l.CommonJs a m taken) (l.CommonJs b n other) =
    (a == b) && ((m == n) && same_taken taken other)
same_target _ _ = false

-- what the first of these calls a target
abbrev pub called_first : l.Target → List Called → Option Text
called_first t pairs = option_map (λ pair. pair.1) (find (λ pair. same_target t pair.0) pairs)

-- what is noted of a target
abbrev pub noted_text : {S : Type 0} → IndexMap TargetRef (Bor Text) S → TargetRef → Option Text
noted_text symbols t = option_map (λ x. x.now) (get_by (target_impl.ghosts.eq t) symbols)

-- a table of symbols tells what the first of these calls each target
abbrev pub Calls : {S : Type 0} → IndexMap TargetRef (Bor Text) S → List Called → Type 0
Calls symbols pairs = (t : TargetRef) → noted_text symbols t ≡ called_first (target_of t) pairs

-- what m takes, where a specifier leads so
abbrev pub named_by : ℕ → Text → e.Taken → Lead → Option l.Target
named_by m s taken Outside = Some (l.External s taken)
named_by m s taken (ToCommonJs c) = Some (l.CommonJs m c taken)
named_by m s taken (ToModule d) = None
named_by m s taken Nowhere = None

abbrev pub named_as : Kinds → ℕ → Text → e.Taken → Option l.Target
named_as kinds m s taken = named_by m s taken (lead_of kinds m s)

-- what an import calls what it takes
abbrev pub imported_by : Kinds → ℕ → ImportRef → Option Called
imported_by kinds m import =
    option_map (λ t. (t, import.local.now))
    (named_as kinds m import.specifier.now (taken_of import.taken))

-- the whole that is exported
abbrev pub whole_in : Kinds → ℕ → Text → Taken → Option l.Target
whole_in kinds m s k.Whole = named_as kinds m s e.Whole
whole_in kinds m s (k.Named x) = None

abbrev pub taken_in : Kinds → ℕ → Origin → Option l.Target
taken_in kinds m (o.Indirect specifier taken) = whole_in kinds m specifier.now taken
taken_in kinds m (o.Local name) = None

-- what an export of a whole calls it
abbrev pub exported_by : Kinds → ℕ → Export → Option Called
exported_by kinds m export =
    option_map (λ t. (t, identifier_of export.name.now)) (taken_in kinds m export.origin)

-- what the imports, and the exports, of a module call targets, if it is there
abbrev pub imports_at : Kinds → ℕ → Option LinkModule → List Called
imports_at kinds m None = []
imports_at kinds m (Some its) = filter_map (imported_by kinds m) its.tables.now.imports.items

abbrev pub imports_called : Kinds → ℕ → List Called
imports_called kinds m = imports_at kinds m (slice_get kinds.modules.now m)

abbrev pub exports_at : Kinds → ℕ → Option LinkModule → List Called
exports_at kinds m None = []
exports_at kinds m (Some its) = filter_map (exported_by kinds m) its.tables.now.exports.items

abbrev pub exports_called : Kinds → ℕ → List Called
exports_called kinds m = exports_at kinds m (slice_get kinds.modules.now m)

-- the same of all listed modules: first the imports, then the exports
abbrev pub named_in : Kinds → List Called
named_in kinds =
    flat_map (imports_called kinds) kinds.list.now ++ flat_map (exports_called kinds) kinds.list.now

-- what is taken without an import or an export of the whole is called so
abbrev pub name_else : e.Taken → Text
name_else (e.Named x) = identifier_of x
name_else e.Whole = codes "name"

-- some reached module may take it
abbrev pub IsTakable : Program → l.Target → Type 0
IsTakable p (l.Declared m x) = Unit {0}
IsTakable p (l.Namespace m) = Unit {0}
IsTakable p (l.External s taken) = IsTrue (is_external p s)
IsTakable p (l.CommonJs m c taken) = IsReached p m × l.IsCommonJs p c

-- what is taken by a target
abbrev pub target_takes : l.Target → e.Taken
target_takes (l.External s taken) = taken
target_takes (l.CommonJs m c taken) = taken
target_takes (l.Declared m x) = e.Whole
target_takes (l.Namespace m) = e.Whole

-- a target of an external or of a CommonJS module
abbrev pub IsOutsideTarget : l.Target → Type 0
IsOutsideTarget (l.Declared m x) = ⊥
IsOutsideTarget (l.Namespace m) = ⊥
IsOutsideTarget (l.External s taken) = Unit {0}
IsOutsideTarget (l.CommonJs m c taken) = Unit {0}

-- a table of symbols tells what targets of externals and of CommonJS modules are called
abbrev pub AreSymbols : {S : Type 0} → Program → List ℕ → IndexMap TargetRef (Bor Text) S → Type 0
AreSymbols p list symbols =
    (t : TargetRef) →
    IsOutsideTarget (target_of t) →
    IsTakable p (target_of t) →
    unwrap_or (noted_text symbols t) (name_else (target_takes (target_of t)))
    ≡ symbol_of_target p list (target_of t)
