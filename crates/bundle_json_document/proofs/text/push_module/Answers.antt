use Rattle.std.proofs.Common.{◌+◌, ◌∷◌, drop, get_or, sym, ap, ◌∙◌, arith}
use Rattle.std.proofs.lemmas.List.{drop_more, drop_all}
use Rattle.bundle_json_document.proofs.ByItem.{item_put, module_put}
use Rattle.bundle_json_document.proofs.text.push_module.Goals as goal

pub loop-item-preserved : goal.loop-item-preserved
loop-item-preserved c =
    let body = c.args.tree.now.body.items in
    let it = c.item-item.result in
    let more = drop (c.loop-item.item-index + 1) body in
    let same = c.deref-item-items.ensures.value in
    let next = drop_more body c.loop-item.item-index it (omega arith)
    ∙ ap (λ list. get_or list c.loop-item.item-index it ∷ more) (sym same)
    ∙ ap (λ first. first ∷ more) (sym c.item-item.is) in
    item_put _ _ _ _ body _ more c.loop-item.is_later it c.loop-item.invariant next c.in_ok-push_comma.ensures c.in_ok-push_item.ensures

pub returns : goal.returns
returns c =
    module_put _ _ _ _ c.args.tree.now _ c.loop-item.is_later c.in_ok-push_str.ensures.bytes c.loop-item.invariant
    (drop_all c.loop-item.item-index c.args.tree.now.body.items (omega arith)) c.in_ok-push_str-2.ensures.bytes
