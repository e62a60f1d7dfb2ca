-- An entry more marks its place, if it is free.
use Rattle.std.proofs.Common.{◌∙◌}
use Rattle.bundle_link_tables.proofs.MarkLemmas.{marks_next_of}
use Rattle.bundle_link_tables.proofs.free.free_places.Goals as goal

pub loop-occurrence-preserved : goal.loop-occurrence-preserved
loop-occurrence-preserved c =
    record {
      long = c.mark_free.ensures.length ∙ c.loop-occurrence.invariant.long;
      marked = λ place. marks_next_of place c.args.count c.loop-occurrence.free.items _ c.deref-occurrence-items.result.now c.args.denotations.now.occurrences.items c.loop-occurrence.occurrence-index _ c.deref-occurrence-items.ensures.value (c.mark_free.ensures.marked place) c.loop-occurrence.invariant.long (c.loop-occurrence.invariant.marked place) c.loop-occurrence-test.true;
    }
