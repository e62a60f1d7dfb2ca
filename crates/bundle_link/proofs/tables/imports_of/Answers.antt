-- The imports are those of the table.
use Rattle.std.proofs.Common.{ap, ◌∙◌, map}
use Rattle.bundle_link_tables.specs.TablesOf.{import_entry_of}
use Rattle.bundle_link.proofs.tables.imports_of.Goals as goal

pub returns-clause-given : goal.returns-clause-given
returns-clause-given c =
    (c.in_ok-tables.ensures.given.faultless, c.in_ok-owned_imports.ensures ∙ ap (map import_entry_of) c.deref.ensures.value ∙ c.in_ok-tables.ensures.given.imports)
