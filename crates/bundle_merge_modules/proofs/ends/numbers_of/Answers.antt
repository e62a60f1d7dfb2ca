use Rattle.std.proofs.Common.{length, refl, arith}
use Rattle.std.proofs.lemmas.List.{get_or_read}
use Rattle.std.proofs.lemmas.Option.{slice_get_read}
use Rattle.bundle_merge_modules.proofs.PairLemmas.{AreNumbers-all, AreNumbers-more}
use Rattle.bundle_merge_modules.proofs.ends.numbers_of.Goals as goal

pub loop-number-preserved : goal.loop-number-preserved
loop-number-preserved c =
    let pairs = c.args.pairs.now in
    let i = c.loop-number.number in
    let pair = c.index-pairs-number.result in
    let within = c.loop-number-test.true in
    let at = slice_get_read pairs (length pairs) i pair refl within (get_or_read pairs i pair within c.index-pairs-number.is pair) in
    AreNumbers-more pairs i c.loop-number.numbers c.insert.new.self pair c.in_ok-clone.field-0 at c.in_ok-clone.ensures.cases c.in_ok-insert.ensures.updates c.loop-number.invariant

pub returns : goal.returns
returns c = AreNumbers-all c.args.pairs.now c.loop-number.number c.loop-number.numbers (omega (arith, c.loop-number-test.false)) c.loop-number.invariant
