use Rattle.std.proofs.Common.{◌++◌, ◌∷◌, [], ap, ◌∙◌, map, subst}
use Rattle.bundle_link_index.specs.Graph.{graph_of}
use Rattle.bundle_link_tables.specs.TablesOf.{import_entry_of}
use Rattle.bundle_link_index.specs.Leads.{lead_of}
use Rattle.bundle_link_index.specs.Numbered.{HoldsAt, index_names, note, values_of, starred}
use Rattle.bundle_link_index.proofs.NumberedLemmas.{Holds-stars}
use Rattle.bundle_link_index.proofs.index.add_module.Goals as goal

pub returns : goal.returns
returns c = λ noted stars w.
    let lead = lead_of c.args.kinds.now c.args.number in
    let imports = map import_entry_of c.args.tables.now.imports.items in
    let its = starred lead c.args.tables.now.stars.items in
    let lists = c.in_ok-add_module.ensures.stars ∙ ap (λ l. (graph_of c.args.links.now).lists ++ l ∷ []) c.in_ok-starred_modules.ensures in
    subst (λ l. HoldsAt (noted ++ map (note lead c.args.number imports) l) (stars ++ its ∷ []) c.add_entries.new.numbers c.add_entries.new.links) c.deref.ensures.value
    (c.in_ok-add_entries.ensures imports c.in_ok-locals.ensures noted (stars ++ its ∷ [])
    (Holds-stars noted stars (index_names c.args.numbers.now) (values_of c.args.numbers.now) (graph_of c.args.links.now) (graph_of c.add_module.new.self) its lists c.in_ok-add_module.ensures.entries c.in_ok-add_module.ensures.default w))
