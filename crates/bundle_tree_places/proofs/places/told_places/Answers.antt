-- A place more is told, by the nodes that are open there.
use Rattle.std.proofs.Common.{◌≡◌, ℕ, ◌+◌, Option, Some, List, [], length, map, get_or, reverse, slice_get, refl, sym, ap, ◌∙◌, subst, arith}
use Rattle.std.specs.Option.{option_map}
use Rattle.std.proofs.lemmas.Option.{slice_get-map, slice_get_read}
use Rattle.std.proofs.lemmas.List.{length-map, length_push}
use Rattle.bundle_syntax.specs.Item.{item_of}
use Rattle.bundle_rules.specs.Places.{Spot, spot_before}
use Rattle.bundle_rules.proofs.PlacesLemmas.{spot_before-next}
use Rattle.bundle_tree_places.specs.Placed.{AreOpen, IsTold, no_told}
use Rattle.bundle_tree_places.specs.Seconds.{AreSeconds}
use Rattle.bundle_tree_places.specs.declared.places.Frame.{Frame}
use Rattle.bundle_tree_places.specs.declared.places.ReadAt.{ReadAt}
use Rattle.bundle_tree_places.proofs.PlaceLemmas.{is_told, told_push}
use Rattle.bundle_tree_places.proofs.places.told_places.Goals as goal

pub loop-place-init : goal.loop-place-init
loop-place-init c = record {
  long = ap length c.new-told.ensures.items;
  told = λ p l. absurd (omega (arith, l));
  opens = subst (λ (l : List Frame). AreOpen (reverse l) []) (sym c.new-frames.ensures.items) tt;
}

pub loop-place-preserved : goal.loop-place-preserved
loop-place-preserved c =
    let list = c.args.pieces.now in
    let items = map item_of list in
    let n = c.loop-place.place in
    let inv = c.loop-place.invariant in
    let piece = c.index-pieces-place.result in
    let spot = spot_before items n in
    let at : slice_get items n ≡ Some (item_of piece) = slice_get-map item_of list n ∙ ap (λ x. option_map item_of x) (slice_get_read list (length list) n piece refl c.loop-place-test.true c.index-pieces-place.is) in
    let seconds = subst (λ (l : List (Option ℕ)). AreSeconds items l) (sym c.deref.ensures.value) c.in_ok-seconds.ensures in
    let lent = subst (λ (l : List Frame). AreOpen (reverse l) spot.path) (sym c.deref-in-loop-place.ensures.value) inv.opens in
    let here = is_told items n (item_of piece) c.tell.result at (c.tell.ensures.word spot.path seconds lent at) (λ field is. c.tell.ensures.stated spot.path field lent is) in
    record {
      long = ap length c.in_ok-push.ensures.items ∙ (length_push c.loop-place.told.items c.tell.result ∙ ap (λ k. k + 1) inv.long);
      told = λ p l. subst (λ (told : List ReadAt). IsTold items p (get_or told p no_told)) (sym c.in_ok-push.ensures.items) (told_push items c.loop-place.told.items n c.tell.result inv.long inv.told here p l);
      opens = subst (λ (s : Spot). AreOpen (reverse c.step_past.new.frames.items) s.path) (sym (spot_before-next items n (item_of piece) at)) (c.in_ok-step_past.ensures spot.place spot.path inv.opens);
    }

pub returns : goal.returns
returns c = λ p l. c.loop-place.invariant.told p (omega (arith, l, c.loop-place-test.false, length-map c.args.pieces.now item_of))
