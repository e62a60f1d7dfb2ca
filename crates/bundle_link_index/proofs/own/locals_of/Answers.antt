-- One import more is noted.
use Rattle.std.proofs.Common.{◌+◌, ap, ◌∙◌, map, subst, sym, take}
use Rattle.bundle_rules.specs.Entries.{import_of}
use Rattle.bundle_link_tables.specs.Exported.{Finds}
use Rattle.bundle_link_tables.specs.TablesOf.{import_entry_of}
use Rattle.bundle_link_tables.proofs.MarkLemmas.{one_more}
use Rattle.bundle_link_index.proofs.own.locals_of.Goals as goal

pub loop-import-preserved : goal.loop-import-preserved
loop-import-preserved c =
    let i = c.loop-import.import-index in
    let imports = c.deref-import-items.result.now in
    let same = c.deref-import-items.ensures.value in
    subst (λ l. Finds c.note_import.new.locals (map import_entry_of (take (i + 1) l))) same
    (λ x. c.in_ok-note_import.ensures (map import_entry_of (take i imports)) (subst (λ l. Finds c.loop-import.locals (map import_entry_of (take i l))) (sym same) c.loop-import.invariant) x
    ∙ ap (λ l. import_of l x) (one_more import_entry_of imports i _ c.loop-import-test.true))
