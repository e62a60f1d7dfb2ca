-- An export more is there.
use Rattle.bundle_link.proofs.ProgramLemmas.{next_item}
use Rattle.bundle_link.proofs.tables.owned_items.Goals as goal

pub loop-export-preserved : goal.loop-export-preserved
loop-export-preserved c = λ once.
    let known = c.loop-export.invariant once in
    next_item c.args.exports.now c.loop-export.export-index _ c.loop-export.items.entries _ c.loop-export-test.true known.0 known.1 c.in_ok-add_item.ensures
