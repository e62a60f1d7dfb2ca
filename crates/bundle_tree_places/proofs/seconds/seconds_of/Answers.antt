-- A place before was told.
use Rattle.std.proofs.Common.{◌≡◌, ℕ, ◌+◌, ◌-◌, ◌<◌, Option, None, Some, List, length, get_or, map, slice_get, reverse, refl, sym, ap, ◌∙◌, arith}
use Rattle.std.specs.Option.{option_map}
use Rattle.std.proofs.lemmas.Option.{slice_get-map, slice_get_read}
use Rattle.std.proofs.lemmas.List.{length-map, length-set, drop_all}
use Rattle.bundle_syntax.specs.Item.{Item, item_of}
use Rattle.bundle_tree_places.specs.Seconds.{second_from}
use Rattle.bundle_tree_places.proofs.SecondLemmas.{second_end, back_tops, back_each}
use Rattle.bundle_tree_places.proofs.seconds.seconds_of.Goals as goal

pub loop-place-init : goal.loop-place-init
loop-place-init c =
    let items = map item_of c.args.pieces.now in
    let n = length c.args.pieces.now in
    record {
      within = omega arith;
      len = omega (arith, c.in_ok-seconds.ensures.len);
      tops = λ depth. ap (λ (l : List (Option ℕ)). get_or (reverse l) depth None) c.new-stack.ensures.items ∙ (sym (second_end depth n) ∙ ap (λ (l : List Item). second_from depth n l) (sym (drop_all n items (omega (arith, length-map c.args.pieces.now item_of)))));
      each = λ p low l. absurd (omega (arith, low, l));
    }

pub loop-place-preserved : goal.loop-place-preserved
loop-place-preserved c =
    let pieces = c.args.pieces.now in
    let items = map item_of pieces in
    let n = c.loop-place.place in
    let q = n - 1 in
    let inv = c.loop-place.invariant in
    let piece = c.index-pieces-place.result in
    let seconds = c.loop-place.seconds.items in
    let second = c.in_ok-second.second in
    let count : length items ≡ length pieces = length-map pieces item_of in
    let next : q + 1 ≡ n = omega (arith, c.loop-place-test.true) in
    let inside : q < length pieces = omega (arith, c.loop-place-test.true, inv.within) in
    let at : slice_get items q ≡ Some (item_of piece) = slice_get-map item_of pieces q ∙ ap (λ x. option_map item_of x) (slice_get_read pieces (length pieces) q piece refl inside c.index-pieces-place.is) in
    let len : length seconds ≡ length items = inv.len ∙ sym count in
    let old = c.loop-place.stack.items in
    let new = c.step_back.new.stack.items in
    record {
      within = omega (arith, inv.within);
      len = length-set seconds q second ∙ inv.len;
      tops = back_tops items n q next (item_of piece) at seconds len old new second inv.tops (λ p low l. inv.each p low (omega (arith, l, count))) c.in_ok-second.ensures.tops c.in_ok-second.ensures.top;
      each = λ p low l. back_each items n q next (item_of piece) at seconds len old new second inv.tops (λ k a b. inv.each k a (omega (arith, b, count))) c.in_ok-second.ensures.tops c.in_ok-second.ensures.top p low (omega (arith, l, count));
    }
