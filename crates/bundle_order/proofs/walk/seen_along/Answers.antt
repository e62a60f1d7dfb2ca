use Rattle.std.proofs.Common.{◌≡◌, ℕ, ◌+◌, ◌++◌, Option, Some, List, [], length, map, get_or, take, reverse, slice_get, refl, sym, ap, ◌∙◌, subst, append_assoc, append-nil, arith}
use Rattle.std.specs.Option.{option_map, option_to_list}
use Rattle.std.proofs.lemmas.Option.{slice_get-map, slice_get_read}
use Rattle.std.proofs.lemmas.List.{length-map, take_all}
use Rattle.bundle_syntax.specs.Item.{Item, item_of}
use Rattle.bundle_rules.specs.Places.{Spot, path_past, occurrence_of, occurrences, spot_before}
use Rattle.bundle_rules.proofs.PlacesLemmas.{spot_before-next}
use Rattle.bundle_order.specs.declared.seen.Seen.{Seen}
use Rattle.bundle_order.specs.declared.spot.ItemFrame.{ItemFrame}
use Rattle.bundle_order.specs.Told.{no_binding_told}
use Rattle.bundle_order.specs.Open.{AreItemFrames}
use Rattle.bundle_order.specs.Cut.{seen_among, seen_by}
use Rattle.bundle_order.proofs.LaterLemmas.{among-more}
use Rattle.bundle_order.proofs.walk.seen_along.Goals as goal

pub loop-place-init : goal.loop-place-init
loop-place-init c = record {
  seen = sym (append-nil c.args.seen.now.items);
  opens = subst (λ (l : List ItemFrame). AreItemFrames (map item_of c.args.item.now) (λ (p : ℕ). get_or c.args.told.now p no_binding_told) (reverse l) []) (sym c.requires.closed) tt;
  place = refl;
}

pub loop-place-preserved : goal.loop-place-preserved
loop-place-preserved c =
    let list = c.args.item.now in
    let items = map item_of list in
    let n = c.loop-place.place in
    let inv = c.loop-place.invariant in
    let piece = c.index-item-place.result in
    let spot = spot_before items n in
    let at : slice_get items n ≡ Some (item_of piece) = slice_get-map item_of list n ∙ ap (λ x. option_map item_of x) (slice_get_read list (length list) n piece refl c.loop-place-test.true c.index-item-place.is) in
    let next = spot_before-next items n (item_of piece) at in
    let lent = subst (λ (l : List ItemFrame). AreItemFrames items (λ (p : ℕ). get_or c.args.told.now p no_binding_told) (reverse l) spot.path) (sym c.deref.ensures.value) inv.opens in
    let here = c.seen_here-one.ensures spot inv.place c.requires.seconds lent in
    record {
      seen = c.in_ok-push_some.ensures
          ∙ (ap (λ (o : Option Seen). c.loop-place.seen.items ++ option_to_list o) here
          ∙ (ap (λ (l : List Seen). l ++ option_to_list (seen_by c.args.number (λ (p : ℕ). get_or c.args.told.now p no_binding_told) items (occurrence_of spot (item_of piece)))) inv.seen
          ∙ (append_assoc c.args.seen.now.items (seen_among c.args.number (λ (p : ℕ). get_or c.args.told.now p no_binding_told) items (occurrences (take n items))) (option_to_list (seen_by c.args.number (λ (p : ℕ). get_or c.args.told.now p no_binding_told) items (occurrence_of spot (item_of piece))))
          ∙ ap (λ (l : List Seen). c.args.seen.now.items ++ l) (sym (among-more c.args.number (λ (p : ℕ). get_or c.args.told.now p no_binding_told) items n (item_of piece) at)))));
      opens = subst (λ (s : Spot). AreItemFrames items (λ (p : ℕ). get_or c.args.told.now p no_binding_told) (reverse c.step_past.new.frames.items) s.path) (sym next)
          (subst (λ (k : ℕ). AreItemFrames items (λ (p : ℕ). get_or c.args.told.now p no_binding_told) (reverse c.step_past.new.frames.items) (path_past k spot.path (item_of piece))) (sym inv.place)
          (c.in_ok-step_past.ensures spot.path c.requires.seconds inv.opens));
      place = ap (λ (s : Spot). s.place) next ∙ ap (λ k. k + 1) inv.place;
    }

pub returns : goal.returns
returns c =
    let items = map item_of c.args.item.now in
    c.loop-place.invariant.seen ∙ ap (λ (l : List Item). c.args.seen.now.items ++ seen_among c.args.number (λ (p : ℕ). get_or c.args.told.now p no_binding_told) items (occurrences l)) (take_all c.loop-place.place items (omega (arith, c.loop-place-test.false, length-map c.args.item.now item_of)))
