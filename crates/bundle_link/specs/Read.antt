-- The tables of a module are those of its list.
use Rattle.std.specs.Prelude.{◌≡◌, List, codes, filter, map, not}
use Rattle.std.specs.List.{flat_map}
use Rattle.bundle_tree_names.specs.FileName.{Name}
use Rattle.bundle_tree_names.specs.declared.config.Config.{Config}
use Rattle.bundle_syntax.specs.Item.{Item}
use Rattle.bundle_link_tables.specs.declared.table.Tables.{Tables}
use Rattle.bundle_link_tables.specs.Sources.{source_asked, told_external}
use Rattle.bundle_link_tables.specs.Used.{use_entry_of, uses_of}
use Rattle.bundle_link_tables.specs.TablesOf.{asked_name_of, call_entry_of, export_entry_of, import_entry_of, uses_common_js}
use Rattle.bundle_rules.specs.Awaits.{awaits_outside}
use Rattle.bundle_rules.specs.Bound.{has_free, is_free}
use Rattle.bundle_rules.specs.Entries.{Settings, declared_requests, exports_of, imports_of, is_script, linked_calls, requests_of}
use Rattle.bundle_rules.specs.Faults.{IsFaultless, asked_names}
use Rattle.bundle_rules.specs.Nodes.{each_once}
use Rattle.bundle_rules.specs.Tables.{is_star, star_of}
use Rattle.bundle_link.specs.Refusals.{Links}

-- the tree has no fault, and these are its requests, imports, exports that have a name, stars, what
-- it asks for and its literal calls; whether it is a script, uses a name of CommonJS, awaits
-- outside functions, and uses `arguments` that nothing binds; the names that it asks of others, and
-- where imported names are used, with the reads around each
pub record AreTablesOf
    (config : Config) (file : Name) (tree : List Item) (tables : Tables) : Type 0 where
  pub faultless : IsFaultless file tree
  pub requests : (settings : Settings) →
      Links config settings →
      map (λ request. request.now) tables.requests.items ≡ requests_of settings (is_free tree) tree
  pub imports : map import_entry_of tables.imports.items ≡ imports_of tree
  pub exports :
      map export_entry_of tables.exports.items
      ≡ filter (λ entry. not (is_star entry)) (exports_of tree)
  pub stars :
      map (λ star. star.now) tables.stars.items ≡ each_once (flat_map star_of (exports_of tree))
  pub sources : (settings : Settings) →
      Links config settings →
      map source_asked tables.sources.items
      ≡ map (told_external settings.external) (declared_requests tree)
  pub calls : (settings : Settings) →
      Links config settings →
      map call_entry_of tables.calls.items ≡ linked_calls settings (is_free tree) tree
  pub script : tables.is_script ≡ is_script tree
  pub common_js : tables.names_common_js ≡ uses_common_js tree
  pub awaits : tables.awaits ≡ awaits_outside tree
  pub arguments : tables.has_free_arguments ≡ has_free tree (codes "arguments")
  pub names : map asked_name_of tables.asked.items ≡ asked_names tree
  pub uses : map (use_entry_of tables.reads.items) tables.uses.items ≡ uses_of tree
