use Rattle.bundle_link_index.proofs.ReachLemmas.{Notes-more}
use Rattle.bundle_link_index.proofs.search.note.Goals as goal

pub loop-at-preserved : goal.loop-at-preserved
loop-at-preserved c = Notes-more c.args.answers.now.entries c.loop-at.answers.entries c.insert.new.self.entries c.args.line.now c.args.answer c.loop-at.at-index (0, 0) c.loop-at-test.true c.loop-at.invariant c.in_ok-insert.ensures.updates.0
