use Rattle.std.proofs.Common.{◌≡◌, ◌+◌, List, [], ◌∷◌, ◌++◌, take, sym, ap, ap₂, ◌∙◌, arith}
use Rattle.std.specs.List.{flat_map}
use Rattle.std.proofs.lemmas.Grind.{flat_map-append}
use Rattle.std.proofs.lemmas.List.{take_more}
use Rattle.bundle_tree_listed.specs.Tree.{key_value_prop_items}
use Rattle.bundle_json_document.proofs.parties.copied.Goals as goal

-- two lists stay alike where each gets one of the same
alike_more : {X A : Type 0} (f : X → List A) (xs ys : List X) (x y : X) → flat_map f ys ≡ flat_map f xs → f y ≡ f x → flat_map f (ys ++ y ∷ []) ≡ flat_map f (xs ++ x ∷ [])
alike_more f xs ys x y before one =
    flat_map-append f ys (y ∷ []) ∙ ap₂ (λ front last. front ++ (last ++ [])) before one ∙ sym (flat_map-append f xs (x ∷ []))

pub loop-property-preserved : goal.loop-property-preserved
loop-property-preserved c =
    let l = c.loop-property in
    let property = c.property-item.result in
    let front : take (l.property-index + 1) c.args.properties.now ≡ take l.property-index c.args.properties.now ++ property ∷ [] =
    take_more c.args.properties.now l.property-index property (omega arith) ∙ ap (λ it. take l.property-index c.args.properties.now ++ it ∷ []) (sym c.property-item.is) in
    rw (c.in_ok-push.ensures.items, front) (alike_more (key_value_prop_items 0) _ _ property c.in_ok-made.made l.invariant (c.in_ok-made.ensures 0))
