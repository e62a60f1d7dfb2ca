use Rattle.std.proofs.Common.{◌≡◌, ◌+◌, length, sym, ap, ◌∙◌, subst, arith}
use Rattle.std.proofs.lemmas.Bool.{false≢true}
use Rattle.std.proofs.lemmas.List.{length_push}
use Rattle.bundle_order_sort.proofs.ItemLemmas.{IsFirst, IsFirst-starts, IsFirst-goes_on, firsts-push}
use Rattle.bundle_order_sort.proofs.needs.firsts_of.Goals as goal
use Rattle.bundle_order_sort.proofs.needs.firsts_of.Goals.{then-not-follows, else-not-follows}

pub loop-number-preserved : goal.loop-number-preserved
loop-number-preserved c =
    let items = c.args.items.now in
    let n = c.loop-number.number in
    let first = c.if-not-follows.first in
    let is_first : IsFirst items n first = elim c.if-not-follows.branch [
      | then-not-follows w ↦ subst (λ f. IsFirst items n f) (sym w.first-is) (IsFirst-starts items n (λ f. false≢true (sym w.if-not-follows.true ∙ c.follows.ensures.1 f)))
      | else-not-follows w ↦ let f = c.follows.ensures.0 w.if-not-follows.false in subst (λ g. IsFirst items n g) (sym w.first-is) (IsFirst-goes_on items f.before n c.loop-number.first f.next f.shared (c.loop-number.invariant.first f.before f.next))
    ] in
    record {
      len = ap length c.in_ok-push.ensures.items ∙ (length_push c.loop-number.firsts.items first ∙ ap (λ m. m + 1) c.loop-number.invariant.len);
      first = λ p e. subst (λ k. IsFirst items k first) (let same : n ≡ p = omega (arith, e) in same) is_first;
      each = firsts-push items c.loop-number.firsts.items c.push.new.self.items n first c.in_ok-push.ensures.items c.loop-number.invariant.len c.loop-number.invariant.each is_first;
    }

pub returns-clause-each : goal.returns-clause-each
returns-clause-each c = λ s t h. c.loop-number.invariant.each s t (omega (arith, h, c.loop-number-test.false))
