-- What is wanted was brought to its place.
use Rattle.std.proofs.Common.{arith}
use Rattle.std.proofs.lemmas.List.{get_or_read}
use Rattle.bundle_order_sort.proofs.ArrangeLemmas.{IsShuffled-brought, AreSwapped-brought}
use Rattle.bundle_order_sort.proofs.arranging.Shuffle.bring.Goals as goal

pub returns-then-wanted-len-clause-shuffled : goal.returns-then-wanted-len-clause-shuffled
returns-then-wanted-len-clause-shuffled g c = λ first was place_in wanted_in.
    let old = c.args.self.now in
    let found = get_or_read old.places.items c.args.wanted c.index-found.result.now (omega (arith, wanted_in, was.inverse.places_len)) c.index-found.ensures 0 in
    let number = get_or_read old.numbers.items c.args.place c.index-number.result.now (omega (arith, place_in, was.inverse.numbers_len)) c.index-number.ensures 0 in
    IsShuffled-brought old (record { numbers = c.exchange-then-wanted-len.new.values; places = c.exchange-then-wanted-len-2.new.values }) first c.args.values.now.items c.exchange.new.values.items c.args.place c.args.wanted c.index-found.result.now c.index-number.result.now was place_in wanted_in found number c.exchange.ensures.swapped c.exchange-then-wanted-len.ensures.swapped c.exchange-then-wanted-len-2.ensures.swapped

pub returns-then-wanted-len-clause-brought : goal.returns-then-wanted-len-clause-brought
returns-then-wanted-len-clause-brought g c = λ first was place_in wanted_in.
    let old = c.args.self.now in
    let found = get_or_read old.places.items c.args.wanted c.index-found.result.now (omega (arith, wanted_in, was.inverse.places_len)) c.index-found.ensures 0 in
    let number = get_or_read old.numbers.items c.args.place c.index-number.result.now (omega (arith, place_in, was.inverse.numbers_len)) c.index-number.ensures 0 in
    AreSwapped-brought old (record { numbers = c.exchange-then-wanted-len.new.values; places = c.exchange-then-wanted-len-2.new.values }) first c.args.values.now.items c.exchange.new.values.items c.args.place c.args.wanted c.index-found.result.now c.index-number.result.now was place_in wanted_in found number c.exchange.ensures.swapped c.exchange-then-wanted-len.ensures.swapped c.exchange-then-wanted-len-2.ensures.swapped
