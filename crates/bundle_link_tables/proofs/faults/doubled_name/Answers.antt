-- An export more was passed.
use Rattle.std.proofs.Common.{arith, rules}
use Rattle.bundle_link_tables.proofs.ToldLemmas.{doubled_here, doubled_past, doubled_end}
use Rattle.bundle_link_tables.proofs.faults.doubled_name.Goals as goal

pub returns-then-contains : goal.returns-then-contains
returns-then-contains c = doubled_here c.loop-export.met.keys c.args.exports.now c.loop-export.export-index _ _ c.loop-export-test.true (search rules) c.loop-export.invariant

pub loop-export-preserved : goal.loop-export-preserved
loop-export-preserved c = doubled_past c.loop-export.met.keys _ c.args.exports.now c.loop-export.export-index _ _ c.loop-export-test.true (search rules) c.in_ok-insert.ensures.keys c.loop-export.invariant

pub returns : goal.returns
returns c = doubled_end _ c.args.exports.now c.loop-export.export-index _ (omega arith) c.loop-export.invariant
