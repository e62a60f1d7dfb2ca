use Rattle.std.proofs.Common.{◌+◌, ◌∷◌, ◌++◌, drop, string_bytes, sym, ap, ap₂, ◌∙◌, arith}
use Rattle.std.proofs.lemmas.List.{drop_more, drop_all}
use Rattle.bundle_json_document.proofs.ByItem.{one_object, text_is}
use Rattle.bundle_json_document.proofs.text.bundles_text.Goals as goal

pub loop-bundle-preserved : goal.loop-bundle-preserved
loop-bundle-preserved c =
    let bundle = c.bundle-item.result in
    let bundles = c.args.bundles.now in
    let more = drop (c.loop-bundle.bundle-index + 1) bundles in
    let next = drop_more bundles c.loop-bundle.bundle-index bundle (omega arith) ∙ ap (λ it. it ∷ more) (sym c.bundle-item.is) in
    one_object _ _ _ _ _ _ _ c.loop-bundle.is_later bundle c.loop-bundle.invariant next c.in_ok-push_comma.ensures c.in_ok-push_object.ensures

pub returns-clause-text : goal.returns-clause-text
returns-clause-text c =
    let opened = c.in_ok-push.ensures.bytes ∙ ap₂ (λ a b. a ++ b) c.new-text.ensures.bytes (c.in_ok-push.ensures.ascii (omega arith)) in
    let closed = c.in_ok-push-2.ensures.bytes ∙ ap (λ l. string_bytes c.loop-bundle.text ++ l) (c.in_ok-push-2.ensures.ascii (omega arith)) in
    text_is _ _ _ _ _ c.loop-bundle.is_later opened c.loop-bundle.invariant (drop_all c.loop-bundle.bundle-index c.args.bundles.now (omega arith)) closed
