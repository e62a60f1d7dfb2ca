-- When modules that are to be linked are those of a program.
use Rattle.std.specs.Prelude.{◌≡◌, ◌↔◌, ℕ, ◌<◌, length, Bool, not, List, [], Some, None, Contains, bytes_eq, codes, filter, map, slice_get, if◌then◌else◌}
use Rattle.std.specs.List.{flat_map}
use Rattle.indexmap.specs.IndexSet.{contains_by}
use Rattle.bundle_rules.specs.Nodes.{Text, each_once}
use Rattle.bundle_rules.specs.Entries.{Taken, ImportEntry, Indirect, Star, declared_requests, is_script}
use Rattle.bundle_rules.specs.Awaits.{awaits_outside}
use Rattle.bundle_rules.specs.Bound.{has_free}
use Rattle.bundle_rules.specs.Program.{Program, calls_of, is_external, tree_of, IsReached}
use Rattle.bundle_rules.specs.Linking.{exports, imports}
use Rattle.bundle_rules.specs.Tables.{TellsCommonJs, is_star, star_of}
use Rattle.bundle_link_tables.specs.Sources.{source_asked, told_external}
use Rattle.bundle_rules.specs.Faults.{asked_names}
use Rattle.bundle_link_tables.specs.TablesOf.{asked_name_of, call_entry_of, export_entry_of, import_entry_of, uses_common_js}
use Rattle.bundle_link_tables.specs.Used.{use_entry_of, uses_of}
use Rattle.bundle_link_tables.specs.declared.table.Tables.{Tables}
use Rattle.bundle_link_index.specs.declared.target.LinkModule.{LinkModule}
use Rattle.bundle_link_index.specs.declared.kinds.Kinds.{Kinds}
use Rattle.bundle_link_index.specs.Said.{Lead, Outside, HasEachOnce}
use Rattle.bundle_link_index.specs.Leads.{flagged, lead_found, required_of}

-- an import or an export of a module asks for the text
pub data AsksFor (p : Program) (m : ℕ) : Text → Type 0 where
  by_import : (entry : ImportEntry) → Contains (imports p m) entry → AsksFor p m entry.specifier
  by_entry : {x s : Text} {taken : Taken} → Contains (exports p m) (Indirect x s taken) →
      AsksFor p m s
  by_star : {s : Text} → Contains (exports p m) (Star s) → AsksFor p m s

-- the table of a module is that of the program
pub record IsTableOf (p : Program) (m : ℕ) (tables : Tables) : Type 0 where
  pub named :
      map export_entry_of tables.exports.items ≡ filter (λ entry. not (is_star entry)) (exports p m)
  pub stars : map (λ star. star.now) tables.stars.items ≡ each_once (flat_map star_of (exports p m))
  pub imports : map import_entry_of tables.imports.items ≡ imports p m
  pub sources :
      map source_asked tables.sources.items
      ≡ map (told_external p.settings.external) (declared_requests (tree_of p m))
  pub calls : map call_entry_of tables.calls.items ≡ calls_of p m
  pub script : tables.is_script ≡ is_script (tree_of p m)
  pub common_js : tables.names_common_js ≡ uses_common_js (tree_of p m)
  pub awaits : tables.awaits ≡ awaits_outside (tree_of p m)
  pub arguments : tables.has_free_arguments ≡ has_free (tree_of p m) (codes "arguments")
  pub names : map asked_name_of tables.asked.items ≡ asked_names (tree_of p m)
  pub uses : map (use_entry_of tables.reads.items) tables.uses.items ≡ uses_of (tree_of p m)

-- modules that are handed in to be linked are those of the program: their tables, where their
-- requests lead, which are reached from the entry
pub record IsLinkProgram
    (p : Program) (modules : List LinkModule) (list : List ℕ) (entry : ℕ)
    (require : Bool) : Type 0 where
  pub tables : (m : ℕ) (its : LinkModule) →
      slice_get modules m ≡ Some its →
      IsTableOf p m its.tables.now
  pub others : (m : ℕ) → slice_get modules m ≡ None → tree_of p m ≡ []
  pub leads : (m : ℕ) (s : Text) → p.leads m s ≡ required_of modules m s
  pub within : (m d : ℕ) (s : Text) → p.leads m s ≡ Some d → d < length modules
  pub begins : p.entry ≡ entry
  pub requires : p.settings.require ≡ require
  pub reached : (n : ℕ) → Contains list n ↔ IsReached p n
  pub once : HasEachOnce p

-- modules with their tables, and what is known of their kinds, are those of the program
pub record AreModulesKnown (p : Program) (kinds : Kinds) : Type 0 where
  pub tables : (m : ℕ) (its : LinkModule) →
      slice_get kinds.modules.now m ≡ Some its →
      IsTableOf p m its.tables.now
  pub others : (m : ℕ) → slice_get kinds.modules.now m ≡ None → exports p m ≡ []
  pub trees : (m : ℕ) → slice_get kinds.modules.now m ≡ None → tree_of p m ≡ []
  pub begins : p.entry ≡ kinds.entry
  pub leads : (m : ℕ) (s : Text) → p.leads m s ≡ required_of kinds.modules.now m s
  pub outside : (m : ℕ) (s : Text) →
      AsksFor p m s →
      contains_by (λ k. bytes_eq s k.now) kinds.externals ≡ is_external p s
  pub common_js : (c : ℕ) → TellsCommonJs p c (flagged kinds.common_js.items c)
  pub reached : (n : ℕ) → Contains kinds.list.now n ↔ IsReached p n
  pub once : HasEachOnce p

-- where a specifier of a module leads in the program, where these are CommonJS
abbrev pub lead_in : Program → List Bool → ℕ → Text → Lead
lead_in p flags m s = if is_external p s then Outside else lead_found flags (p.leads m s)
