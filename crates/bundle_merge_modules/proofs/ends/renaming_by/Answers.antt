use Rattle.std.proofs.Common.{◌<◌, length, refl, sym, ap, ◌∙◌, arith}
use Rattle.std.specs.Prelude.{slice_index}
use Rattle.std.proofs.lemmas.List.{get_or_read}
use Rattle.std.proofs.lemmas.Option.{slice_get_read}
use Rattle.bundle_merge_modules.specs.Pairs.{AliasPair}
use Rattle.bundle_merge_modules.proofs.PairLemmas.{AreSteps-more}
use Rattle.bundle_merge_modules.proofs.ends.renaming_by.Goals as goal

pub loop-number-preserved : goal.loop-number-preserved
loop-number-preserved c =
    let pairs = c.args.pairs.now in
    let ends = c.args.ends.now in
    let i = c.loop-number.number in
    let from = c.index-pairs-number.result in
    let to = c.index-pairs-ends.result in
    let within = c.loop-number-test.true in
    let at = slice_get_read pairs (length pairs) i from refl within (get_or_read pairs i from within c.index-pairs-number.is from) in
    let end_within : slice_index ends i < length pairs = c.requires.within i (omega (arith, within, c.requires.len)) in
    let at_end = slice_get_read pairs (length pairs) (slice_index ends i) to refl end_within (get_or_read pairs (slice_index ends i) to end_within c.index-pairs-ends.is to) in
    AreSteps-more pairs ends i c.loop-number.renaming c.insert.new.self from to c.in_ok-clone.field-0 c.in_ok-end.end at at_end
    c.in_ok-clone.ensures.cases (c.in_ok-end.ensures.cases ∙ ap (λ (p : AliasPair). p.1) (sym c.index-pairs-ends.is)) c.in_ok-insert.ensures.ok c.loop-number.invariant
