-- By the element at the place and what stands first in its second field.
use Rattle.std.proofs.Common.{◌≡◌, ℕ, Option, None, Some, length, map, slice_get, refl, sym, ap, ◌∙◌, arith}
use Rattle.std.specs.Prelude.{if◌then◌else◌}
use Rattle.std.specs.Option.{option_map}
use Rattle.std.proofs.lemmas.Option.{slice_get-map, slice_get_read}
use Rattle.std.proofs.lemmas.List.{length-map}
use Rattle.bundle_syntax.specs.Item.{item_of}
use Rattle.bundle_tree_places.specs.Seconds.{is_member_item, word_at}
use Rattle.bundle_tree_places.proofs.SecondLemmas.{property_is}
use Rattle.bundle_tree_places.proofs.seconds.property_at.Goals as goal

pub returns-then-place-pieces : goal.returns-then-place-pieces
returns-then-place-pieces c = λ seconds.
    let pieces = c.args.pieces.now in
    let items = map item_of pieces in
    let place = c.args.place in
    let piece = c.index-pieces-place.result in
    let at : slice_get items place ≡ Some (item_of piece) = slice_get-map item_of pieces place ∙ ap (λ x. option_map item_of x) (slice_get_read pieces (length pieces) place piece refl c.if-place-pieces.true c.index-pieces-place.is) in
    let count : length items ≡ length pieces = length-map pieces item_of in
    c.word_in.ensures
    ∙ (ap (λ (o : Option ℕ). if is_member_item (item_of piece) then word_at items o else None) (c.second_at.ensures ∙ seconds place (omega (arith, c.if-place-pieces.true, count)))
    ∙ sym (property_is items place (Some (item_of piece)) at))
