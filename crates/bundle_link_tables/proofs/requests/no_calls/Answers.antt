-- The fault that is told is the first, and where none is told there is none.
use Rattle.std.proofs.Common.{List, ap, ◌∙◌, map}
use Rattle.bundle_syntax.specs.Item.{item_of}
use Rattle.bundle_rules.specs.Faults.{entry_name}
use Rattle.bundle_link_tables.specs.declared.table.Export.{Export}
use Rattle.bundle_link_tables.specs.TablesOf.{export_entry_of}
use Rattle.bundle_link_tables.proofs.ToldLemmas.{found_first, found_none, told_unlisted}
use Rattle.bundle_link_tables.proofs.requests.no_calls.Goals as goal

pub returns-in-Some-clause-judged : goal.returns-in-Some-clause-judged
returns-in-Some-clause-judged c = λ file.
    let tree = map item_of c.args.pieces.now in
    found_first file tree c.in_ok-first.first c.in-Some.fault c.in-Some.is
    (c.in_ok-first.ensures file ∙ told_unlisted file tree (map export_entry_of c.deref.result.now) (ap (λ (l : List Export). map entry_name (map export_entry_of l)) c.deref.ensures.value ∙ c.requires.names) c.requires.unlisted)

pub returns-in-None-clause-judged : goal.returns-in-None-clause-judged
returns-in-None-clause-judged c = λ file.
    let tree = map item_of c.args.pieces.now in
    found_none file tree c.in_ok-first.first c.in-None.is
    (c.in_ok-first.ensures file ∙ told_unlisted file tree (map export_entry_of c.deref.result.now) (ap (λ (l : List Export). map entry_name (map export_entry_of l)) c.deref.ensures.value ∙ c.requires.names) c.requires.unlisted)
