-- What was put in, and what is still to be put in, are the items of the module.
use Rattle.std.proofs.Common.{drop, string_bytes}
use Rattle.bundle_json_document.proofs.ByItem.{ArePut}
use Rattle.bundle_json_document.proofs.text.push_module.Given as goal

abbrev pub invariant-loop-item : goal.invariant-loop-item
invariant-loop-item l =
    ArePut (string_bytes l.initial.text) (string_bytes l.text) l.tree.body.items (drop l.item-index l.tree.body.items) l.is_later
