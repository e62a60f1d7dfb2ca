-- What is asked for is told by the calls that are linked, and the fault with them.
use Rattle.std.proofs.Common.{◌++◌, ap, ◌∙◌, map}
use Rattle.bundle_syntax.specs.Item.{item_of}
use Rattle.bundle_rules.specs.Bound.{is_free}
use Rattle.bundle_rules.specs.Nodes.{each_once}
use Rattle.bundle_link_tables.specs.declared.table.RequireCall.{RequireCall}
use Rattle.bundle_link_tables.specs.Sources.{unexternal}
use Rattle.bundle_link_tables.proofs.ExportLemmas.{told_all}
use Rattle.bundle_link_tables.proofs.SourceLemmas.{requested}
use Rattle.bundle_link_tables.proofs.requests.requests_in.Goals as goal

pub returns-in-Ok-clause-requests : goal.returns-in-Ok-clause-requests
returns-in-Ok-clause-requests c = λ settings same holds.
    let tree = map item_of c.args.pieces.now in
    let sources = c.in_ok-outline.outline.sources.items in
    let calls = rw c.in-Ok.is at c.in_ok-judged.ensures.calls in
    c.in_ok-requests-in-Ok.ensures
    ∙ ap (λ l. each_once (unexternal l ++ map (λ (call : RequireCall). call.specifier.now) c.deref-in-Ok.result.now)) c.deref.ensures.value
    ∙ ap (λ l. each_once (unexternal sources ++ map (λ (call : RequireCall). call.specifier.now) l)) c.deref-in-Ok.ensures.value
    ∙ requested settings (is_free tree) tree sources c.in-Ok.calls.items
    (c.in_ok-outline.ensures.sources ∙ told_all c.args.external.now settings.external _ holds)
    (calls settings same holds)

pub returns-in-Ok-clause-judged : goal.returns-in-Ok-clause-judged
returns-in-Ok-clause-judged c = λ file. rw c.in-Ok.is at (c.in_ok-judged.ensures.judged file)

pub returns-clause-judged : goal.returns-clause-judged
returns-clause-judged c = λ file. rw c.in-Err.is at (c.in_ok-judged.ensures.judged file)
