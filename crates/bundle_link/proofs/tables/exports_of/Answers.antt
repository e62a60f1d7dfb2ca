-- The exports are those of the table, in which no name is doubled.
use Rattle.bundle_tree_names.specs.FileName.{name_of}
use Rattle.bundle_tree_listed.specs.Tree.{module_items}
use Rattle.bundle_link.proofs.ProgramLemmas.{exported}
use Rattle.bundle_link.proofs.tables.exports_of.Goals as goal

pub returns-clause-given : goal.returns-clause-given
returns-clause-given c = (
  c.in_ok-tables.ensures.given.faultless,
  exported (name_of c.args.file.now) (module_items 0 c.args.tree.now) c.in_ok-tables.tables c.in_ok-owned_exports.field-0 c.in_ok-tables.ensures.given.faultless c.in_ok-tables.ensures.given.exports c.in_ok-tables.ensures.given.stars c.in_ok-owned_exports.ensures.items c.in_ok-owned_exports.ensures.stars,
)
