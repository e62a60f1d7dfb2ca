-- What the top items import and give is what the module does, by its imports.
use Rattle.std.proofs.Common.{◌≡◌, ap, ◌∙◌, map}
use Rattle.bundle_syntax.specs.Item.{item_of}
use Rattle.bundle_rules.specs.Entries.{import_of, imports_of}
use Rattle.bundle_link_tables.specs.Exported.{import_by}
use Rattle.bundle_tree_places.specs.Parted.{part_items}
use Rattle.bundle_link_tables.specs.Sources.{has_external}
use Rattle.bundle_link_tables.specs.TablesOf.{import_entry_of}
use Rattle.bundle_link_tables.proofs.ExportLemmas.{asked_placed, exports_placed, imports_found, requests_placed, stars_placed}
use Rattle.bundle_link_tables.proofs.ImportLemmas.{declared_placed, imports_placed}
use Rattle.bundle_link_tables.proofs.ListedLemmas.{listed_placed}
use Rattle.bundle_link_tables.proofs.entries.entries_of.Goals as goal

pub returns-clause-imports : goal.returns-clause-imports
returns-clause-imports c =
    c.in_ok-entries.ensures.imports ∙ imports_placed (map item_of c.args.pieces.now) _ (ap (map part_items) c.deref.ensures.value ∙ c.in_ok-tops.ensures)

pub returns-clause-declared : goal.returns-clause-declared
returns-clause-declared c =
    c.in_ok-entries.ensures.declared ∙ declared_placed (map item_of c.args.pieces.now) _ (ap (map part_items) c.deref.ensures.value ∙ c.in_ok-tops.ensures)

pub returns-clause-exports : goal.returns-clause-exports
returns-clause-exports c =
    let tree = map item_of c.args.pieces.now in
    let found = import_by c.in_ok-entries.entries.locals in
    let imports = map import_entry_of c.in_ok-entries.entries.imports.items in
    let tops = ap (map part_items) c.deref.ensures.value ∙ c.in_ok-tops.ensures in
    let are : imports ≡ imports_of tree = c.in_ok-entries.ensures.imports ∙ imports_placed tree _ tops in
    c.in_ok-entries.ensures.exports ∙ exports_placed found tree _ (imports_found found imports tree are c.in_ok-entries.ensures.locals) tops

pub returns-clause-asked : goal.returns-clause-asked
returns-clause-asked c =
    let tree = map item_of c.args.pieces.now in
    let found = import_by c.in_ok-entries.entries.locals in
    let imports = map import_entry_of c.in_ok-entries.entries.imports.items in
    let tops = ap (map part_items) c.deref.ensures.value ∙ c.in_ok-tops.ensures in
    let are : imports ≡ imports_of tree = c.in_ok-entries.ensures.imports ∙ imports_placed tree _ tops in
    c.in_ok-entries.ensures.asked ∙ asked_placed found tree _ (imports_found found imports tree are c.in_ok-entries.ensures.locals) tops

pub returns-clause-stars : goal.returns-clause-stars
returns-clause-stars c =
    c.in_ok-entries.ensures.stars ∙ stars_placed (map item_of c.args.pieces.now) _ (ap (map part_items) c.deref.ensures.value ∙ c.in_ok-tops.ensures)

pub returns-clause-sources : goal.returns-clause-sources
returns-clause-sources c =
    c.in_ok-entries.ensures.sources
    ∙ ap (map (has_external c.args.external.now)) (requests_placed (map item_of c.args.pieces.now) _ (ap (map part_items) c.deref.ensures.value ∙ c.in_ok-tops.ensures))

pub returns-clause-locals : goal.returns-clause-locals
returns-clause-locals c = λ x.
    let tree = map item_of c.args.pieces.now in
    let imports = map import_entry_of c.in_ok-entries.entries.imports.items in
    let are : imports ≡ imports_of tree = c.in_ok-entries.ensures.imports ∙ imports_placed tree _ (ap (map part_items) c.deref.ensures.value ∙ c.in_ok-tops.ensures) in
    c.in_ok-entries.ensures.locals x ∙ ap (λ l. import_of l x) are

pub returns-clause-listed : goal.returns-clause-listed
returns-clause-listed c =
    c.in_ok-entries.ensures.listed ∙ listed_placed (map item_of c.args.pieces.now) _ (ap (map part_items) c.deref.ensures.value ∙ c.in_ok-tops.ensures)
