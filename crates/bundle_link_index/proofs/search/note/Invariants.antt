use Rattle.bundle_link_index.specs.Given.{NotesAnswer}
use Rattle.bundle_link_index.proofs.search.note.Given as goal

abbrev pub invariant-loop-at : goal.invariant-loop-at
invariant-loop-at l = NotesAnswer l.fn.answers.entries l.line l.answer l.answers.entries
