use Rattle.std.proofs.Common.{◌≡◌, ◌+◌, ◌++◌, ◌∷◌, [], take, get_or, sym, ◌∙◌, subst}
use Rattle.std.proofs.lemmas.List.{take_more, take_all}
use Rattle.bundle_link_index.specs.Answers.{with_more}
use Rattle.bundle_link_index.specs.Reached.{TellsAmong}
use Rattle.bundle_link_index.proofs.ReachLemmas.{Among-absent, Among-present, told_there, told_absent}
use Rattle.bundle_link_index.proofs.by_name.reached_among.Goals as goal
use Rattle.bundle_link_index.proofs.by_name.reached_among.Goals.{then-contains+else-is_two, else-contains}

pub loop-number-preserved : goal.loop-number-preserved
loop-number-preserved c =
    let these = c.args.modules.now in
    let keys = c.args.reach.now.keys in
    let i = c.loop-number.number-index in
    let x = get_or these i 0 in
    let old = c.loop-number.answer in
    let more : take (i + 1) these ≡ take i these ++ x ∷ [] = take_more these i 0 c.loop-number-test.true in
    elim c.if-contains.branch [
      | then-contains+else-is_two w ↦
          let same : with_more old x ≡ c.if-contains.answer = cc in
          subst (λ a. TellsAmong (take (i + 1) these) keys a) same (subst (λ l. TellsAmong l keys (with_more old x)) (sym more) (Among-present (take i these) keys x (told_there x keys (sym c.contains.ensures ∙ w.if-contains.true)) old c.loop-number.invariant))
      | else-contains w ↦
          let same : old ≡ c.if-contains.answer = cc in
          subst (λ a. TellsAmong (take (i + 1) these) keys a) same (subst (λ l. TellsAmong l keys old) (sym more) (Among-absent (take i these) keys x (told_absent x keys (sym c.contains.ensures ∙ w.if-contains.false)) old c.loop-number.invariant))
    ]

pub returns : goal.returns
returns c = subst (λ l. TellsAmong l c.args.reach.now.keys c.loop-number.answer) (take_all c.loop-number.number-index c.args.modules.now c.loop-number-test.false) c.loop-number.invariant
