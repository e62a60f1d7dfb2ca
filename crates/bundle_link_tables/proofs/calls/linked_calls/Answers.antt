-- None is linked where none may be, and else those of no external.
use Rattle.std.proofs.Common.{◌&&◌, ltb, ap, sym, ◌∙◌, map, bytes_eq, not, rules}
use Rattle.std.specs.Prelude.{filter}
use Rattle.std.specs.List.{list_any}
use Rattle.std.proofs.lemmas.List.{length-map}
use Rattle.bundle_syntax.specs.Item.{item_of}
use Rattle.std.specs.Borrow.{Bor}
use Rattle.bundle_rules.specs.Entries.{RequireCall, is_require_name, require_calls}
use Rattle.bundle_rules.specs.Nodes.{Text}
use Rattle.bundle_link_tables.specs.Free.{frees, is_place_marked}
use Rattle.bundle_link_tables.specs.TablesOf.{call_entry_of}
use Rattle.bundle_link_tables.proofs.CallLemmas.{linked_none, linked_on}
use Rattle.bundle_link_tables.proofs.calls.linked_calls.Goals as goal
use Rattle.indexmap.specs.IndexSet.{contains_by}

pub returns-then-not-may_call : goal.returns-then-not-may_call
returns-then-not-may_call c = λ settings same holds is.
    let items = map item_of c.args.pieces.now in
    ap (map call_entry_of) c.new.ensures.items ∙ linked_none settings items (ap (λ b. b && list_any is_require_name items) same ∙ sym c.if-not-may_call.ensures)

pub returns : goal.returns
returns c = λ settings same holds is.
    let tree = map item_of c.args.pieces.now in
    let table = c.args.denotations.now in
    let long = sym (length-map c.args.pieces.now item_of) in
    linked_on c.args.external.now settings tree table c.in_ok-free.free.items (map call_entry_of c.in_ok-calls.calls.items) (map call_entry_of c.in_ok-kept.kept.items) (same ∙ (search rules)) holds is
    (λ p. c.in_ok-free.ensures p ∙ ap (λ n. ltb p n && list_any (frees p) table.occurrences.items) long)
    (c.in_ok-calls.ensures ∙ ap (λ l. require_calls (is_place_marked l) tree) c.deref.ensures.value)
    (c.in_ok-kept.ensures ∙ ap (λ l. filter (λ (call : RequireCall). not (contains_by (λ (k : Bor Text). bytes_eq call.specifier k.now) c.args.external.now)) (map call_entry_of l)) c.deref-2.ensures.value)
