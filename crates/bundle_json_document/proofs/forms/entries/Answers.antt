use Rattle.std.proofs.Common.{arith}
use Rattle.bundle_json_form.specs.Plain.{seen}
use Rattle.bundle_json_document.specs.Document.{IsEntryPair}
use Rattle.bundle_json_document.proofs.Maps.{values_more}
use Rattle.bundle_json_document.proofs.Turns.{none_listed, none_zipped}
use Rattle.bundle_json_document.proofs.Fronts.{handed_on}
use Rattle.bundle_json_document.proofs.forms.entries.Goals as goal

pub loop-item-preserved : goal.loop-item-preserved
loop-item-preserved c =
    let l = c.loop-item in
    rw c.in_ok-push.ensures.items (values_more IsEntryPair c.in_ok-items.items.now l.entries.items l.item-index c.item-item.result c.in_ok-entry.entry (omega arith) c.item-item.is l.invariant c.in_ok-entry.ensures.ok)

pub returns-in_err-entry-clause-refused : goal.returns-in_err-entry-clause-refused
returns-in_err-entry-clause-refused c =
    let items = c.in_ok-items in
    handed_on _ _ c.from_residual-in_err-entry.ensures.1
    (λ none. none_listed IsEntryPair items.items.now (seen c.args.value.now) items.ensures.ok
    (none_zipped IsEntryPair items.items.now c.loop-item.item-index c.item-item.result (omega arith) c.item-item.is none))
    c.in_err-entry.ensures.refused
