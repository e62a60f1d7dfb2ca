-- The tables of the list by the texts of the call, or its first fault.
use Rattle.std.proofs.Common.{◌≡◌, List, None, rules, ap, ◌∙◌, map}
use Rattle.std.specs.Borrow.{Bor}
use Rattle.bundle_syntax.specs.Item.{item_of}
use Rattle.bundle_rules.specs.Bound.{is_free}
use Rattle.bundle_rules.specs.Nodes.{Text}
use Rattle.bundle_rules.specs.Faults.{entry_name}
use Rattle.bundle_link_tables.specs.declared.table.Export.{Export}
use Rattle.bundle_link_tables.specs.Sources.{source_asked}
use Rattle.bundle_link_tables.specs.Listed.{export_listed_as}
use Rattle.bundle_link_tables.specs.TablesOf.{export_entry_of}
use Rattle.bundle_link_tables.specs.Used.{use_entry_of}
use Rattle.bundle_link_tables.proofs.ExportLemmas.{told_all}
use Rattle.bundle_link_tables.proofs.SourceLemmas.{requested}
use Rattle.bundle_link_tables.proofs.ToldLemmas.{found_first, found_none, told_by_tree}
use Rattle.bundle_link_tables.proofs.tables.tables_of.Goals as goal

pub returns-clause-sources : goal.returns-clause-sources
returns-clause-sources c = λ texts holds.
    ap (map source_asked) c.put_together.ensures.sources ∙ c.in_ok-entries.ensures.sources ∙ told_all c.args.external.now texts _ holds

pub returns-clause-requests : goal.returns-clause-requests
returns-clause-requests c = λ settings same holds is.
    let tree = map item_of c.args.pieces.now in
    ap (map (λ (request : Bor Text). request.now)) c.put_together.ensures.requests
    ∙ c.in_ok-made.ensures.requests
    ∙ requested settings (is_free tree) tree c.in_ok-entries.entries.given.sources.items c.in_ok-made.made.calls.items
    (c.in_ok-entries.ensures.sources ∙ told_all c.args.external.now settings.external _ holds)
    (c.in_ok-made.ensures.calls settings same holds is)

pub returns-clause-judged : goal.returns-clause-judged
returns-clause-judged c = λ file is.
    let none : c.in_ok-first.first ≡ None = search rules in
    let tree = map item_of c.args.pieces.now in
    found_none file tree c.in_ok-first.first none
    (c.in_ok-first.ensures file ∙ told_by_tree file tree c.args.denotations.now (map export_entry_of c.deref.result.now) (map export_listed_as c.deref-2.result.now) c.in_ok-rare.rare.with is (ap (λ (l : List Export). map entry_name (map export_entry_of l)) c.deref.ensures.value ∙ ap (map entry_name) c.in_ok-entries.ensures.exports) (ap (map export_listed_as) c.deref-2.ensures.value ∙ c.in_ok-entries.ensures.listed) c.in_ok-rare.ensures.with)

pub returns-in-Some-clause-judged : goal.returns-in-Some-clause-judged
returns-in-Some-clause-judged c = λ file is.
    let tree = map item_of c.args.pieces.now in
    found_first file tree c.in_ok-first.first c.in-Some.fault c.in-Some.is
    (c.in_ok-first.ensures file ∙ told_by_tree file tree c.args.denotations.now (map export_entry_of c.deref.result.now) (map export_listed_as c.deref-2.result.now) c.in_ok-rare.rare.with is (ap (λ (l : List Export). map entry_name (map export_entry_of l)) c.deref.ensures.value ∙ ap (map entry_name) c.in_ok-entries.ensures.exports) (ap (map export_listed_as) c.deref-2.ensures.value ∙ c.in_ok-entries.ensures.listed) c.in_ok-rare.ensures.with)

pub returns-clause-uses : goal.returns-clause-uses
returns-clause-uses c = λ is.
    let made = c.in_ok-made.made in
    ap (λ l. map (use_entry_of l) c.put_together.result.uses.items) c.put_together.ensures.reads
    ∙ ap (map (use_entry_of made.found.reads.items)) c.put_together.ensures.uses
    ∙ c.in_ok-made.ensures.uses c.in_ok-entries.ensures.locals is
