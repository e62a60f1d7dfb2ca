use Rattle.std.proofs.Common.{◌≤◌, length, flat_map}
use Rattle.serde_json.specs.Data.{Items}
use Rattle.bundle_json_form.specs.Form.{top, AreForms}
use Rattle.bundle_tree_listed.specs.Tree.{module_item_items}
use Rattle.bundle_json_document.specs.Document.{no_document_notes}
use Rattle.bundle_json_document.proofs.Turns.{ReadsItems}
use Rattle.bundle_json_document.proofs.stream.items.Given as goal

abbrev pub invariant-turns : goal.invariant-turns
invariant-turns l = (ds : Items) × ReadsItems 123 l.initial.reader l.reader ds × AreForms no_document_notes top ds (flat_map (module_item_items 0) l.items.body.items) × (length l.reader ≤ length l.initial.reader)

abbrev pub decreases-turns : goal.decreases-turns
decreases-turns l = length l.reader
