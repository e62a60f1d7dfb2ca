-- What is read is read of the module's own list, and a fault is one of it.
use Rattle.std.proofs.Common.{◌≡◌, List, map, ap, sym, ◌∙◌, subst}
use Rattle.std.specs.Prelude.{option_map}
use Rattle.std.proofs.lemmas.Result.{err_from_is_err_and}
use Rattle.std.specs.BTreeMap.{get_by_text}
use Rattle.bundle_tree_names.specs.FileName.{name_of}
use Rattle.bundle_tree_names.specs.declared.error.Error.{Error}
use Rattle.bundle_syntax.specs.Item.{Item, item_of}
use Rattle.bundle_tree_places.specs.Marks.{ident_of}
use Rattle.bundle_rules.specs.Declarations.{BySymbol}
use Rattle.bundle_rules.specs.Entries.{has_import_meta}
use Rattle.bundle_rules.specs.Scopes.{ModuleKind}
use Rattle.bundle_scope_denote.specs.Listed.{IsDenotationTable}
use Rattle.bundle_scope_denote.specs.declared.table.Denotations.{Denotations}
use Rattle.bundle_link_tables.specs.declared.table.Tables.{Tables}
use Rattle.bundle_link.specs.Leads.{module_place, last_told}
use Rattle.bundle_link.specs.Read.{AreTablesOf}
use Rattle.bundle_link.specs.Refusals.{IsTreeRefusal}
use Rattle.bundle_merge.specs.Read.{name_held, own_list}
use Rattle.bundle_merge.proofs.read.read_module.Goals as goal

pub returns-in_err-tables-clause-refused : goal.returns-in_err-tables-clause-refused
returns-in_err-tables-clause-refused c =
    let file = name_of c.args.known.now.file_name in
    let items = c.args.tree.now.body.items in
    let list : map item_of c.deref-2.result.now ≡ own_list items =
    ap (map item_of) c.deref-2.ensures.value ∙ c.in_ok-own.ensures.list
    ∙ ap own_list c.deref.ensures.value in
    let p = err_from_is_err_and c.from_residual-in_err-tables.result c.from_residual-in_err-tables.ensures.1 in
    let last_told : IsTreeRefusal file (map item_of c.deref-2.result.now) p.0 =
    subst (λ (e : Error). IsTreeRefusal file (map item_of c.deref-2.result.now) e) (sym p.2)
    c.in_err-tables.ensures.refused in
    rw p.1 (subst (λ (l : List Item). IsTreeRefusal file l p.0) list last_told)

pub returns-clause-read : goal.returns-clause-read
returns-clause-read c = λ part its.
    let config = c.args.linker.now.config in
    let file = name_of c.args.known.now.file_name in
    let items = c.args.tree.now.body.items in
    let own = c.in_ok-own.own in
    let tables = c.in_ok-tables.tables in
    let names = c.in_ok-names.names in
    let body : c.deref.result.now ≡ items = c.deref.ensures.value in
    let list : map item_of own.pieces.items ≡ own_list items =
    c.in_ok-own.ensures.list ∙ ap own_list body in
    let read : map item_of c.deref-2.result.now ≡ own_list items =
    ap (map item_of) c.deref-2.ensures.value ∙ list in
    let named : map item_of c.deref-3.result.now ≡ own_list items =
    ap (map item_of) c.deref-3.ensures.value ∙ list in
    record {
      its_items = its.items ∙ c.as_slice.ensures.value;
      written = ap (option_map ident_of) its.written ∙ c.in_ok-own.ensures.written ∙ ap name_held body;
      names = λ p kind w has.
          subst (λ (d : Denotations). IsDenotationTable BySymbol kind (own_list items) d) (sym its.denotations)
          (subst (λ (l : List Item). IsDenotationTable BySymbol kind l names) named
          (subst (λ (k : ModuleKind). IsDenotationTable BySymbol k (map item_of c.deref-3.result.now) names)
          (c.kind_of-kind.ensures p kind w has) c.in_ok-names.ensures));
      tables =
          subst (λ (t : Tables). AreTablesOf config file (own_list items) t) (sym its.tables)
          (subst (λ (l : List Item). AreTablesOf config file l tables) read
          c.in_ok-tables.ensures.given);
      meta =
          ap (λ (t : Tables). t.has_import_meta) its.tables ∙ c.in_ok-tables.ensures.meta
          ∙ ap has_import_meta read;
      leads = λ s.
          ap (λ leads. get_by_text leads s) its.leads ∙ c.in_ok-leads.ensures s
          ∙ ap (λ deps. last_told (module_place c.args.places.now.keys) deps s) c.deref-4.ensures.value;
      local = its.local ∙ c.as_u32.ensures;
    }
