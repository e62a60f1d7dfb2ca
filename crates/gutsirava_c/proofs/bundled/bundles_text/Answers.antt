use Rattle.std.proofs.Common.{◌+◌, ◌∷◌, ◌++◌, drop, string_bytes, sym, ap, ap₂, ◌∙◌, arith}
use Rattle.std.proofs.lemmas.List.{drop_more, drop_all}
use Rattle.gutsirava_c.proofs.Listed.{list_begins, list_ends, one_object}
use Rattle.gutsirava_c.proofs.bundled.bundles_text.Goals as goal

pub loop-bundle-init : goal.loop-bundle-init
loop-bundle-init c =
    list_begins _ _ (c.in_ok-push.ensures.bytes ∙ ap₂ (λ a b. a ++ b) c.new-text.ensures.bytes (c.in_ok-push.ensures.ascii (omega arith)))

pub loop-bundle-preserved : goal.loop-bundle-preserved
loop-bundle-preserved c =
    let bundle = c.bundle-item.result in
    let bundles = c.args.bundles.now in
    let more = drop (c.loop-bundle.bundle-index + 1) bundles in
    let next = drop_more bundles c.loop-bundle.bundle-index bundle (omega arith) ∙ ap (λ it. it ∷ more) (sym c.bundle-item.is) in
    one_object _ _ _ _ _ _ c.loop-bundle.is_later bundle c.loop-bundle.invariant next c.in_ok-push_comma.ensures c.in_ok-push_bundle.ensures

pub returns : goal.returns
returns c =
    let closed = c.in_ok-push-2.ensures.bytes ∙ ap (λ l. string_bytes c.loop-bundle.text ++ l) (c.in_ok-push-2.ensures.ascii (omega arith)) in
    list_ends _ _ _ _ c.loop-bundle.is_later c.loop-bundle.invariant (drop_all c.loop-bundle.bundle-index c.args.bundles.now (omega arith)) closed
