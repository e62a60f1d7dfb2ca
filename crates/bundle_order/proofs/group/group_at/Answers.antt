-- One more item was added.
use Rattle.std.proofs.Common.{◌≡◌, ℕ, ◌+◌, ◌<◌, ◌++◌, ◌∷◌, [], Vec, Global, Option, List, length, get_or, map, take, sym, ap, ◌∙◌, subst}
use Rattle.std.proofs.lemmas.List.{get_or-map, map-append, take_all, take_more}
use Rattle.bundle_syntax.specs.declared.piece.Piece.{Piece}
use Rattle.bundle_syntax.specs.Item.{Item, item_of}
use Rattle.bundle_rules.specs.Sorting.{Numbered}
use Rattle.bundle_order.specs.declared.group.Group.{Group}
use Rattle.bundle_order.specs.declared.number.ItemPlace.{ItemPlace}
use Rattle.bundle_order.specs.Grouped.{IsGroup}
use Rattle.bundle_order.specs.Numbering.{numbered_at}
use Rattle.bundle_order.proofs.group.group_at.Goals as goal

abbrev listed : Vec Piece Global → List Item
listed v = map item_of v.items

abbrev first_of : Numbered → List Item
first_of one = one.0

abbrev second_of : Numbered → Option ℕ
second_of one = one.1

one_more : (old new : Group) (lists : List (List Item)) (places : List ItemPlace) (n : ℕ) (d : ItemPlace) (x : List Item) → n < length places → x ≡ get_or lists (get_or places n d).at [] → ((all : List (List Item)) (owners : List (Option ℕ)) → IsGroup old all owners → IsGroup new (all ++ x ∷ []) (owners ++ (get_or places n d).owner ∷ [])) → IsGroup old (map first_of (map (numbered_at lists) (take n places))) (map second_of (map (numbered_at lists) (take n places))) → IsGroup new (map first_of (map (numbered_at lists) (take (n + 1) places))) (map second_of (map (numbered_at lists) (take (n + 1) places)))
one_more old new lists places n d x less is add group =
    let p = get_or places n d in
    let before = map (numbered_at lists) (take n places) in
    let one = numbered_at lists p in
    let all : before ++ one ∷ [] ≡ map (numbered_at lists) (take (n + 1) places) = sym (map-append (numbered_at lists) (take n places) (p ∷ [])) ∙ ap (λ (l : List ItemPlace). map (numbered_at lists) l) (sym (take_more places n d less)) in
    let added = subst (λ (y : List Item). IsGroup new (map first_of before ++ y ∷ []) (map second_of before ++ p.owner ∷ [])) is (add (map first_of before) (map second_of before) group) in
    subst (λ (l : List Numbered). IsGroup new (map first_of l) (map second_of l)) all
    (subst (λ (l : List (List Item)). IsGroup new l (map second_of (before ++ one ∷ []))) (sym (map-append first_of before (one ∷ [])))
    (subst (λ (o : List (Option ℕ)). IsGroup new (map first_of before ++ first_of one ∷ []) o) (sym (map-append second_of before (one ∷ []))) added))

pub loop-place-preserved : goal.loop-place-preserved
loop-place-preserved c =
    let lists = c.args.lists.now in
    let list = c.index-lists-place.result in
    one_more _ _ (map listed lists) c.args.places.now c.loop-place.place-index _ (map item_of c.deref.result.now) c.loop-place-test.true
    (ap (λ (l : List Piece). map item_of l) c.deref.ensures.value ∙ (ap listed c.index-lists-place.is ∙ sym (get_or-map listed lists _ list [] (c.requires c.loop-place.place-index _ c.loop-place-test.true))))
    c.in_ok-add.ensures.group c.loop-place.invariant

pub returns : goal.returns
returns c =
    let lists = map listed c.args.lists.now in
    subst (λ (l : List ItemPlace). IsGroup c.loop-place.group (map first_of (map (numbered_at lists) l)) (map second_of (map (numbered_at lists) l))) (take_all c.loop-place.place-index c.args.places.now c.loop-place-test.false) c.loop-place.invariant
