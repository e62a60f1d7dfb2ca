-- Where no export is given on, the imports alone ask.
use Rattle.std.proofs.Common.{◌++◌, map, ap, sym, ◌∙◌}
use Rattle.std.specs.List.{flat_map}
use Rattle.bundle_rules.specs.Faults.{asked_by_import}
use Rattle.bundle_link_tables.specs.Exported.{import_by}
use Rattle.bundle_tree_places.specs.Parted.{part_items}
use Rattle.bundle_link_tables.specs.TablesOf.{asked_name_of, import_entry_of}
use Rattle.bundle_link_tables.proofs.ExportLemmas.{imports_alone}
use Rattle.bundle_link_tables.proofs.asked.asked_by.Goals as goal

pub returns : goal.returns
returns c =
    let imports = map import_entry_of c.args.imports.now in
    c.in_ok-add_all.ensures
    ∙ ap (λ l. map asked_name_of l ++ flat_map asked_by_import imports) c.new-asked.ensures.items
    ∙ imports_alone (import_by c.args.locals.now) (map part_items c.args.tops.now) imports c.args.exports.now c.requires.imports c.requires.exports (sym c.give_on.ensures ∙ c.if-give_on.false)
