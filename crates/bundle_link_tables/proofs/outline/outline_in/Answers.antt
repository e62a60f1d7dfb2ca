-- The names are the same, whatever imports are found.
use Rattle.std.proofs.Common.{map, ap, ◌∙◌}
use Rattle.bundle_rules.specs.Faults.{entry_name}
use Rattle.bundle_tree_places.specs.Parted.{part_items}
use Rattle.bundle_link_tables.specs.Exported.{import_by}
use Rattle.bundle_link_tables.proofs.ListedLemmas.{names_alike}
use Rattle.bundle_link_tables.proofs.outline.outline_in.Goals as goal

pub returns-clause-names : goal.returns-clause-names
returns-clause-names c = λ look. ap (map entry_name) c.in_ok-exports.ensures ∙ names_alike (import_by c.new-none.result) look (map part_items c.args.tops.now)
