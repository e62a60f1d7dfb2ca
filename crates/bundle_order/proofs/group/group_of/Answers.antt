-- One more item was added.
use Rattle.std.proofs.Common.{◌≡◌, ℕ, ◌+◌, ◌<◌, ◌++◌, ◌∷◌, [], Vec, Global, Option, None, List, length, get_or, map, take, sym, ap, ◌∙◌, subst, arith}
use Rattle.std.specs.Prelude.{unwrap_or}
use Rattle.std.proofs.lemmas.List.{map-append, take_all, take_more}
use Rattle.std.proofs.lemmas.Option.{slice_get-get_or}
use Rattle.bundle_syntax.specs.declared.piece.Piece.{Piece}
use Rattle.bundle_syntax.specs.Item.{Item, item_of}
use Rattle.bundle_order.specs.Grouped.{IsGroup}
use Rattle.bundle_order.proofs.group.group_of.Goals as goal

abbrev listed : Vec Piece Global → List Item
listed v = map item_of v.items

pub loop-number-preserved : goal.loop-number-preserved
loop-number-preserved c = λ same.
    let all = c.args.lists.now in
    let owners = c.args.owners.now in
    let n = c.loop-number.number in
    let item = c.index-lists-number.result in
    let before = map listed (take n all) in
    let less : n < length owners = omega (arith, same, c.loop-number-test.true) in
    let lists : before ++ map item_of c.deref.result.now ∷ [] ≡ map listed (take (n + 1) all) =
    ap (λ (l : List Piece). before ++ map item_of l ∷ []) c.deref.ensures.value
    ∙ (ap (λ (v : Vec Piece Global). before ++ listed v ∷ []) c.index-lists-number.is
    ∙ (sym (map-append listed (take n all) (get_or all n item ∷ []))
    ∙ ap (λ (l : List (Vec Piece Global)). map listed l) (sym (take_more all n item c.loop-number-test.true)))) in
    let owned : take n owners ++ c.owner_at.result ∷ [] ≡ take (n + 1) owners =
    ap (λ (o : Option ℕ). take n owners ++ o ∷ []) (c.owner_at.ensures ∙ ap (λ (o : Option (Option ℕ)). unwrap_or o None) (slice_get-get_or owners n None less))
    ∙ sym (take_more owners n None less) in
    subst (λ (l : List (List Item)). IsGroup c.add.new.self l (take (n + 1) owners)) lists
    (subst (λ (o : List (Option ℕ)). IsGroup c.add.new.self (before ++ map item_of c.deref.result.now ∷ []) o) owned
    (c.in_ok-add.ensures.group before (take n owners) (c.loop-number.invariant same)))

pub returns : goal.returns
returns c = λ same.
    let all = c.args.lists.now in
    let n = c.loop-number.number in
    let test = c.loop-number-test.false in
    subst (λ (l : List (Vec Piece Global)). IsGroup c.loop-number.group (map listed l) c.args.owners.now) (take_all n all test)
    (subst (λ (o : List (Option ℕ)). IsGroup c.loop-number.group (map listed (take n all)) o) (take_all n c.args.owners.now (omega (arith, same, test))) (c.loop-number.invariant same))
