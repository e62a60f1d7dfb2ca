use Rattle.std.proofs.Common.{◌≡◌, map, ap, sym, subst, ◌∙◌, flat_map}
use Rattle.bundle_syntax.specs.Item.{item_of}
use Rattle.bundle_json_form.specs.Form.{top, IsForm}
use Rattle.bundle_json_form.specs.Plain.{seen}
use Rattle.bundle_tree_listed.specs.Tree.{module_item_items}
use Rattle.bundle_json_document.specs.Document.{no_document_notes}
use Rattle.bundle_json_document.proofs.ByItem.{inside}
use Rattle.bundle_json_document.proofs.stream.item.Goals as goal

pub returns-clause-ok : goal.returns-clause-ok
returns-clause-ok c =
    let d = seen c.in_ok-value.value in
    let them = map item_of c.in_ok-pieces.pieces.items in
    let listed : flat_map (module_item_items 0) c.in_ok-made.made.body.items ≡ them =
    inside c.in_ok-made.made them (c.in_ok-made.ensures.made ∙ ap (map item_of) c.as_slice.ensures.value ∙ c.in_ok-list.ensures) in
    (d, c.in_ok-value.ensures.ok, subst (IsForm no_document_notes top d) (sym listed) (subst (λ notes. IsForm notes top d them) c.requires c.in_ok-pieces.ensures.read))
