-- A list of one.
use Rattle.std.proofs.Common.{◌∙◌, ap, append-nil}
use Rattle.std.specs.List.{flat_map}
use Rattle.bundle_syntax.specs.Item as h
use Rattle.bundle_tree_listed.specs.Tree.{module_item_items, node, stmt_items}
use Rattle.bundle_merge_forms.proofs.wrap.module_of.Goals as goal

pub returns : goal.returns
returns c = ap (node 0 h.Module) (ap (flat_map (module_item_items 0)) c.in_ok-body.ensures.items ∙ append-nil (stmt_items 0 c.args.stmt))
