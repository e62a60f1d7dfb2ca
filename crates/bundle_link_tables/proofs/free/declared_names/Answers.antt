-- What one entry more declares is in the set.
use Rattle.std.proofs.Common.{ap, ◌∙◌, take}
use Rattle.std.specs.List.{flat_map}
use Rattle.bundle_rules.specs.Nodes.{has_text}
use Rattle.bundle_link_tables.specs.Free.{declared_at_top}
use Rattle.bundle_link_tables.proofs.MarkLemmas.{flat_next_of}
use Rattle.bundle_link_tables.proofs.free.declared_names.Goals as goal

pub loop-occurrence-preserved : goal.loop-occurrence-preserved
loop-occurrence-preserved c = λ x.
    let table = c.args.denotations.now in
    c.in_ok-add_declared.ensures (flat_map (declared_at_top table) (take c.loop-occurrence.occurrence-index table.occurrences.items)) c.loop-occurrence.invariant x
    ∙ ap (has_text x) (flat_next_of (declared_at_top table) c.deref-occurrence-items.result.now table.occurrences.items c.loop-occurrence.occurrence-index _ c.deref-occurrence-items.ensures.value c.loop-occurrence-test.true)
