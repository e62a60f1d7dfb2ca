use Rattle.std.proofs.Common.{◌≡◌, ℕ, zero, suc, ◌+◌, ◌-◌, List, [], ◌∷◌, ◌++◌, length, map, take, drop, refl, sym, ap, ◌∙◌, Vec, Global, arith}
use Rattle.std.specs.List.{slice_range}
use Rattle.std.proofs.lemmas.List.{length_push, map-append, take_all}
use Rattle.bundle_syntax.specs.declared.piece.Piece.{Piece}
use Rattle.bundle_syntax.specs.Item.{Item, item_of}
use Rattle.bundle_tree_listed.specs.Tree.{module_item_items}
use Rattle.bundle_order.proofs.group.lists_of.Goals as goal

abbrev listed : Vec Piece Global → List Item
listed v = map item_of v.items

take-front : {X : Type 0} (xs : List X) (n : ℕ) → take (suc n) xs ≡ take n xs ++ take 1 (drop n xs)
take-front [] zero = refl
take-front [] (suc n) = refl
take-front (x ∷ xs) zero = refl
take-front (x ∷ xs) (suc n) = ap (λ l. x ∷ l) (take-front xs n)

take-split : {X : Type 0} (xs : List X) (n : ℕ) → take (n + 1) xs ≡ take n xs ++ slice_range xs n (n + 1)
take-split xs n =
    ap (λ k. take k xs) (let same : n + 1 ≡ suc n = omega arith in same)
    ∙ (take-front xs n ∙ ap (λ k. take n xs ++ take k (drop n xs)) (let same : 1 ≡ n + 1 - n = omega arith in same))

pub loop-place-preserved : goal.loop-place-preserved
loop-place-preserved c =
    let items = c.args.items.now in
    let n = c.loop-place.place in
    let old = c.loop-place.lists.items in
    let list = c.in_ok-list.list in
    record {
      len = ap length c.in_ok-push.ensures.items ∙ (length_push old list ∙ ap (λ k. k + 1) c.loop-place.invariant.len);
      lists = ap (λ (l : List (Vec Piece Global)). map listed l) c.in_ok-push.ensures.items
          ∙ (map-append listed old (list ∷ [])
          ∙ (ap (λ (l : List (List Item)). l ++ listed list ∷ []) c.loop-place.invariant.lists
          ∙ (ap (λ (l : List (List Item)). map (module_item_items 0) (take n items) ++ l) c.in_ok-list.ensures
          ∙ (sym (map-append (module_item_items 0) (take n items) (slice_range items n (n + 1)))
          ∙ ap (λ l. map (module_item_items 0) l) (sym (take-split items n))))));
    }

pub returns-clause-lists : goal.returns-clause-lists
returns-clause-lists c = c.loop-place.invariant.lists ∙ ap (λ l. map (module_item_items 0) l) (take_all c.loop-place.place c.args.items.now c.loop-place-test.false)
