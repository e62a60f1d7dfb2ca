-- One import more is noted.
use Rattle.std.proofs.Common.{ap, ◌∙◌, map, take}
use Rattle.bundle_rules.specs.Entries.{import_of}
use Rattle.bundle_link_tables.specs.TablesOf.{import_entry_of}
use Rattle.bundle_link_tables.proofs.MarkLemmas.{one_more}
use Rattle.bundle_link_tables.proofs.entries.locals_of.Goals as goal

pub loop-import-preserved : goal.loop-import-preserved
loop-import-preserved c = λ x.
    c.in_ok-note_import.ensures (map import_entry_of (take c.loop-import.import-index c.args.imports.now)) c.loop-import.invariant x
    ∙ ap (λ l. import_of l x) (one_more import_entry_of c.args.imports.now c.loop-import.import-index _ c.loop-import-test.true)
