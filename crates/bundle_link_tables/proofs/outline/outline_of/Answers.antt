-- What the top items give and ask for is what the module does.
use Rattle.std.proofs.Common.{refl, ap, ◌∙◌, map}
use Rattle.bundle_syntax.specs.Item.{item_of}
use Rattle.bundle_rules.specs.Entries.{import_of, imports_of}
use Rattle.bundle_rules.specs.Faults.{entry_name}
use Rattle.bundle_tree_places.specs.Parted.{part_items}
use Rattle.bundle_link_tables.specs.Sources.{has_external}
use Rattle.bundle_link_tables.proofs.ExportLemmas.{exports_placed, requests_placed}
use Rattle.bundle_link_tables.proofs.ListedLemmas.{listed_placed}
use Rattle.bundle_link_tables.proofs.outline.outline_of.Goals as goal

pub returns-clause-names : goal.returns-clause-names
returns-clause-names c =
    let tree = map item_of c.args.pieces.now in
    let look = import_of (imports_of tree) in
    c.in_ok-outline.ensures.names look ∙ ap (map entry_name) (exports_placed look tree _ (λ x. refl) (ap (map part_items) c.deref.ensures.value ∙ c.in_ok-tops.ensures))

pub returns-clause-sources : goal.returns-clause-sources
returns-clause-sources c =
    c.in_ok-outline.ensures.sources
    ∙ ap (map (has_external c.args.external.now)) (requests_placed (map item_of c.args.pieces.now) _ (ap (map part_items) c.deref.ensures.value ∙ c.in_ok-tops.ensures))

pub returns-clause-listed : goal.returns-clause-listed
returns-clause-listed c =
    c.in_ok-outline.ensures.listed ∙ listed_placed (map item_of c.args.pieces.now) _ (ap (map part_items) c.deref.ensures.value ∙ c.in_ok-tops.ensures)
