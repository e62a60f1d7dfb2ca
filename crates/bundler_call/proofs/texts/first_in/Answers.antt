-- The first text of a hash is the text, or another one, or there is none.
use Rattle.std.proofs.Common.{◌≡◌, ◌∙◌, Some, ap, nat_cmp, string_bytes, sym, true, false}
use Rattle.std.specs.BTreeMap.{get}
use Rattle.bundler_call.specs.Hashed.{hash_of, same_text}
use Rattle.bundler_call.proofs.Holding.{first_is, first_none, gives, gives_none}
use Rattle.bundler_call.proofs.texts.first_in.Goals as goal

pub returns-then-eq : goal.returns-then-eq
returns-then-eq c =
    let text = c.args.text.now in
    let texts = c.args.texts.now in
    let place = c.in-Some.place.now in
    let own = c.in-Some-get.own.now in
    let at : get nat_cmp c.args.firsts.now (hash_of (string_bytes text)) ≡ Some place = ap (get nat_cmp c.args.firsts.now) (sym c.hash_of-hash.ensures) ∙ sym c.in-Some.ensures.value in
    sym (first_is same_text text texts _ place own true at (gives texts place own c.in-Some-get.ensures.lookup.0 c.in-Some-get.ensures.lookup.1) (sym c.eq.ensures ∙ c.if-eq.true))

pub returns-else-eq : goal.returns-else-eq
returns-else-eq c =
    let text = c.args.text.now in
    let texts = c.args.texts.now in
    let place = c.in-Some.place.now in
    let own = c.in-Some-get.own.now in
    let at : get nat_cmp c.args.firsts.now (hash_of (string_bytes text)) ≡ Some place = ap (get nat_cmp c.args.firsts.now) (sym c.hash_of-hash.ensures) ∙ sym c.in-Some.ensures.value in
    sym (first_is same_text text texts _ place own false at (gives texts place own c.in-Some-get.ensures.lookup.0 c.in-Some-get.ensures.lookup.1) (sym c.eq.ensures ∙ c.if-eq.false))

pub returns-in-None-get : goal.returns-in-None-get
returns-in-None-get c =
    let text = c.args.text.now in
    let texts = c.args.texts.now in
    let place = c.in-Some.place.now in
    let at : get nat_cmp c.args.firsts.now (hash_of (string_bytes text)) ≡ Some place = ap (get nat_cmp c.args.firsts.now) (sym c.hash_of-hash.ensures) ∙ sym c.in-Some.ensures.value in
    sym (first_none same_text text texts _ place at (gives_none texts place c.in-None-get.ensures.lookup.0))
