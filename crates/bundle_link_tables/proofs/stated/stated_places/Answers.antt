-- A place more is marked, by what it lies in.
use Rattle.std.proofs.Common.{◌≡◌, Some, length, length-set, map, refl, sym, ap, ◌∙◌, slice_get, subst, arith}
use Rattle.std.specs.Option.{option_map}
use Rattle.std.proofs.lemmas.Option.{slice_get-map, slice_get_read}
use Rattle.bundle_syntax.specs.Item.{item_of}
use Rattle.bundle_rules.specs.Places.{Spot, spot_before}
use Rattle.bundle_rules.proofs.PlacesLemmas.{spot_before-next}
use Rattle.bundle_link_tables.specs.Within.{IsWithinItem}
use Rattle.bundle_link_tables.proofs.ListedLemmas.{marked_next}
use Rattle.bundle_link_tables.proofs.stated.stated_places.Goals as goal

pub loop-place-preserved : goal.loop-place-preserved
loop-place-preserved c =
    let list = c.args.pieces.now in
    let tree = map item_of list in
    let n = c.loop-place.place in
    let inv = c.loop-place.invariant in
    let piece = c.index-pieces-place.result in
    let before = spot_before tree n in
    let at : slice_get tree n ≡ Some (item_of piece) = slice_get-map item_of list n ∙ ap (λ x. option_map item_of x) (slice_get_read list (length list) n piece refl c.loop-place-test.true c.index-pieces-place.is) in
    record {
      long = length-set c.loop-place.stated.items n c.is_stated.result ∙ inv.long;
      marked = marked_next tree c.loop-place.stated.items n c.is_stated.result (omega (arith, c.loop-place-test.true, inv.long)) (c.is_stated.ensures before.path inv.within) inv.marked;
      within = subst (λ (s : Spot). IsWithinItem c.step_past-within.result s.path) (sym (spot_before-next tree n (item_of piece) at)) (c.step_past-within.ensures.within before.place before.path inv.within);
      deep = let step = c.step_past-within.ensures.depth in let deep = inv.deep in omega (arith, step, deep);
    }
