-- A new name is noted, and one that was noted stays.
use Rattle.std.proofs.Common.{rules}
use Rattle.bundle_link_tables.proofs.MarkLemmas.{finds_kept, finds_noted}
use Rattle.bundle_link_index.proofs.own.note_import.Goals as goal

pub returns-in_ok-insert : goal.returns-in_ok-insert
returns-in_ok-insert c = λ before known.
    finds_noted c.args.locals.now c.insert.new.self before c.args.import known (search rules) c.in_ok-insert.ensures.updates

pub returns-else-not-contains_key : goal.returns-else-not-contains_key
returns-else-not-contains_key c = λ before known. finds_kept c.args.locals.now before c.args.import known (search rules)
