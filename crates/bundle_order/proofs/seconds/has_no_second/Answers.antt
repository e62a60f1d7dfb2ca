use Rattle.std.proofs.Common.{◌≡◌, ℕ, Option, Some, length, map, slice_get, refl, sym, ap, ◌∙◌, arith}
use Rattle.std.specs.Option.{option_map}
use Rattle.std.proofs.lemmas.Option.{slice_get-map, slice_get_read}
use Rattle.std.proofs.lemmas.List.{length-map}
use Rattle.bundle_syntax.specs.Item.{item_of}
use Rattle.bundle_order.specs.Seconds.{nothing_by}
use Rattle.bundle_order.proofs.SecondLemmas.{nothing_is}
use Rattle.bundle_order.proofs.seconds.has_no_second.Goals as goal

pub returns-then-place-pieces : goal.returns-then-place-pieces
returns-then-place-pieces c = λ seconds.
    let pieces = c.args.pieces.now in
    let items = map item_of pieces in
    let place = c.args.place in
    let piece = c.index-pieces-place.result in
    let at : slice_get items place ≡ Some (item_of piece) = slice_get-map item_of pieces place ∙ ap (λ x. option_map item_of x) (slice_get_read pieces (length pieces) place piece refl c.if-place-pieces.true c.index-pieces-place.is) in
    let count : length items ≡ length pieces = length-map pieces item_of in
    c.has_nothing.ensures
    ∙ (ap (λ (o : Option ℕ). nothing_by (item_of piece) o) (c.second_at.ensures ∙ seconds place (omega (arith, c.if-place-pieces.true, count)))
    ∙ sym (nothing_is items place (item_of piece) at))
