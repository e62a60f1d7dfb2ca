use Rattle.std.proofs.Common.{◌≡◌, ◌<◌, ◌++◌, None, length, flat_map, sym, subst, arith, rules}
use Rattle.json.specs.Json.{after_end_array}
use Rattle.serde_json.specs.Data.{no_items, array}
use Rattle.bundle_json_form.specs.Form.{top, AreForms}
use Rattle.bundle_json_form.proofs.Growth.{items_then}
use Rattle.bundle_tree_listed.specs.Tree.{module_item_items}
use Rattle.bundle_json_document.specs.Document.{no_document_notes}
use Rattle.bundle_json_document.specs.Stream.{IsNextValue}
use Rattle.bundle_json_document.proofs.ByItem.{items_more, no_forms}
use Rattle.bundle_json_document.proofs.Turns.{array_read, array_shorter, item_turn, no_item_read}
use Rattle.bundle_json_document.proofs.stream.items.Goals as goal

pub turns-init : goal.turns-init
turns-init c = (no_items, no_item_read 123 _, subst (λ items. AreForms no_document_notes top no_items (flat_map (module_item_items 0) items)) (sym c.new-body.ensures.items) no_forms, omega arith)

pub turns-preserved : goal.turns-preserved
turns-preserved c =
    let l = c.turns in
    let ds = l.invariant.0 in
    let going : (after_end_array l.reader ≡ None) × (c.take_end_array.new.self ≡ l.reader) = grind arith in
    let done = c.in_ok-more.ensures in
    let d = done.ok.0 in
    let r = c.item.new.reader in
    let next : IsNextValue 123 l.reader r d = rw (← going.1) done.ok.1 in
    let less : length r < length l.reader = rw (← going.1) done.shorter in
    let grown : c.append.new.self.items ≡ l.items.body.items ++ c.in_ok-more.more.body.items = search rules in (
      items_then ds d,
      item_turn 123 _ l.reader r d ds l.invariant.1 going.0 next less,
      items_more ds d l.items.body.items c.in_ok-more.more.body.items c.append.new.self.items l.invariant.2 done.ok.2 grown,
      omega (arith, l.invariant.3),
    )

pub returns-clause-ok : goal.returns-clause-ok
returns-clause-ok c =
    let l = c.turns in
    let ds = l.invariant.0 in
    (array ds, array_read 124 c.args.reader.now _ l.reader c.take_end_array.new.self ds (omega arith) c.in_ok-open_array.ensures l.invariant.1 (grind arith), l.invariant.2)

pub returns-clause-shorter : goal.returns-clause-shorter
returns-clause-shorter c =
    let l = c.turns in
    array_shorter c.args.reader.now _ l.reader c.take_end_array.new.self c.in_ok-open_array.ensures l.invariant.3 (grind arith)
