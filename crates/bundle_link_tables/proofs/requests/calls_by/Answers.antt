-- The fault that is told is the first, and where none is told there is none.
use Rattle.std.proofs.Common.{List, ap, ◌∙◌, map}
use Rattle.bundle_syntax.specs.Item.{item_of}
use Rattle.bundle_rules.specs.Faults.{entry_name}
use Rattle.bundle_link_tables.specs.declared.table.Export.{Export}
use Rattle.bundle_link_tables.specs.Listed.{export_listed_as}
use Rattle.bundle_link_tables.specs.TablesOf.{export_entry_of}
use Rattle.bundle_link_tables.proofs.ToldLemmas.{found_first, found_none, told_by_tree}
use Rattle.bundle_link_tables.proofs.requests.calls_by.Goals as goal

pub returns-in-Some-clause-judged : goal.returns-in-Some-clause-judged
returns-in-Some-clause-judged c = λ file.
    let tree = map item_of c.args.pieces.now in
    found_first file tree c.in_ok-first.first c.in-Some.fault c.in-Some.is
    (c.in_ok-first.ensures file ∙ told_by_tree file tree c.args.names.now (map export_entry_of c.deref.result.now) (map export_listed_as c.deref-2.result.now) c.has_with.result c.requires.table (ap (λ (l : List Export). map entry_name (map export_entry_of l)) c.deref.ensures.value ∙ c.requires.names) (ap (map export_listed_as) c.deref-2.ensures.value ∙ c.requires.listed) c.has_with.ensures)

pub returns-in_ok-linked_calls-in-None-clause-judged : goal.returns-in_ok-linked_calls-in-None-clause-judged
returns-in_ok-linked_calls-in-None-clause-judged c = λ file.
    let tree = map item_of c.args.pieces.now in
    found_none file tree c.in_ok-first.first c.in-None.is
    (c.in_ok-first.ensures file ∙ told_by_tree file tree c.args.names.now (map export_entry_of c.deref.result.now) (map export_listed_as c.deref-2.result.now) c.has_with.result c.requires.table (ap (λ (l : List Export). map entry_name (map export_entry_of l)) c.deref.ensures.value ∙ c.requires.names) (ap (map export_listed_as) c.deref-2.ensures.value ∙ c.requires.listed) c.has_with.ensures)
