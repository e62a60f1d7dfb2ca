use Rattle.std.proofs.Common.{subst}
use Rattle.bundle_link_index.specs.Given.{NotesAnswer}
use Rattle.bundle_link_index.proofs.ReachLemmas.{AreAnswers-notes}
use Rattle.bundle_link_index.proofs.search.answer_anew.Goals as goal

pub returns-in_err-note-clause-right : goal.returns-in_err-note-clause-right
returns-in_err-note-clause-right c =
    let old = c.args.answers.now.entries in
    let new = c.note.new.answers.entries in
    AreAnswers-notes c.args.index.now c.args.at c.answer_in_line.new.line.keys c.in_ok-answer.answer old new c.requires.right c.in_ok-answer.ensures.all (subst (λ l. NotesAnswer old l c.in_ok-answer.answer new) c.as_slice.ensures.keys c.note.ensures)

pub returns-clause-right : goal.returns-clause-right
returns-clause-right c =
    let old = c.args.answers.now.entries in
    let new = c.note.new.answers.entries in
    AreAnswers-notes c.args.index.now c.args.at c.answer_in_line.new.line.keys c.in_ok-answer.answer old new c.requires.right c.in_ok-answer.ensures.all (subst (λ l. NotesAnswer old l c.in_ok-answer.answer new) c.as_slice.ensures.keys c.note.ensures)
