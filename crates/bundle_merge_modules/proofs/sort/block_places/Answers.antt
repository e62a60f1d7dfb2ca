use Rattle.std.proofs.Common.{◌≡◌, ◌<◌, All, ℕ, Vec, Global, List, length, map, sym, ap, ◌∙◌, subst}
use Rattle.std.specs.Prelude.{slice_index}
use Rattle.bundle_syntax.specs.declared.piece.Piece.{Piece}
use Rattle.bundle_syntax.specs.Item.{Item, item_of}
use Rattle.bundle_tree_listed.specs.Tree.{module_item_items}
use Rattle.bundle_merge_modules.specs.Placed.{tree_at, trees_lent}
use Rattle.bundle_merge_modules.proofs.PlacedLemmas.{drawn, put-ordered}
use Rattle.bundle_merge_modules.proofs.sort.block_places.Goals as goal

abbrev listed : Vec Piece Global → List Item
listed v = map item_of v.items

pub returns : goal.returns
returns c = λ modules joins owned.
    let trees = trees_lent c.args.items.now in
    let block = c.args.block.now in
    let places = block.places.items in
    let order = c.in_ok-order.order.items in
    let d = drawn c.args.items.now places c.requires.within in
    let same : map listed c.deref-2.result.now ≡ map (module_item_items 0) d.0 =
    ap (map listed) c.deref-2.ensures.value
    ∙ (c.in_ok-lists.ensures
    ∙ (ap (map (tree_at trees)) c.deref.ensures.value
    ∙ sym d.1)) in
    let ordered = c.in_ok-order.ensures d.0 modules same (d.1 ∙ joins) owned in
    put-ordered trees block modules d.0 order c.in_ok-picked.picked.items d.1 ordered
    (λ all.
    c.in_ok-picked.ensures
    (subst (λ (l : List ℕ). All (λ n. n < length c.deref-3.result.now) l) (sym c.deref-4.ensures.value)
    (subst (λ (l : List ℕ). All (λ n. n < length l) order) (sym c.deref-3.ensures.value) all))
    ∙ (ap (λ (l : List ℕ). map (λ n. slice_index l n) c.deref-4.result.now) c.deref-3.ensures.value
    ∙ ap (map (λ n. slice_index places n)) c.deref-4.ensures.value))
