-- A module is laid out as its form is written.
use Rattle.std.proofs.Common.{◌≡◌, ◌++◌, map, ap, ◌∙◌}
use Rattle.serde_json.specs.Written.{compact_text}
use Rattle.bundle_syntax.specs.Item.{item_of}
use Rattle.bundle_tree_listed.specs.Tree.{module_items}
use Rattle.bundle_json_form.specs.Form.{written}
use Rattle.bundle_json_text.proofs.laid.Modules.{module_tree}
use Rattle.bundle_json_text.proofs.module_text.Goals as goal

pub returns : goal.returns
returns c =
    let shown = module_tree c.args.tree.now in
    let listed : map item_of c.as_slice.result.now ≡ module_items 0 c.args.tree.now = ap (map item_of) c.as_slice.ensures.value ∙ c.in_ok-pieces.ensures in
    record {
      tree = shown.tree;
      listed = shown.listed;
      laid = shown.laid;
      is_text = c.in_ok-push_tree.ensures 0 shown.tree (listed ∙ shown.listed) shown.laid ∙ ap (λ it. it ++ compact_text (written shown.tree)) c.new-text.ensures.bytes;
    }
