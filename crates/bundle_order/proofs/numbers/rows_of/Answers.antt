use Rattle.std.proofs.Common.{◌≡◌, ℕ, ◌+◌, ◌<◌, ◌↔◌, [], ◌∷◌, ◌++◌, List, Contains, map, length, get_or, set, take, sym, ap, ◌∙◌, subst, arith}
use Rattle.std.proofs.lemmas.List.{get_or-map, length-map, length-set, length_push, map-set, take_all}
use Rattle.bundle_order_graph.specs.Classes.{Leads}
use Rattle.bundle_order_graph.proofs.LeadLemmas.{none-push}
use Rattle.bundle_order.proofs.ProvideLemmas.{rows-put, rows-leave}
use Rattle.bundle_order_sort.proofs.ElementLemmas.{Contains-none}
use Rattle.bundle_order.proofs.numbers.rows_of.Goals as goal
use Rattle.bundle_order.proofs.numbers.rows_of.Goals.{then-first-len+in_ok-push-2, else-first-len}

pub loop-preserved : goal.loop-preserved
loop-preserved c = record {
  len = ap length c.in_ok-push.ensures.items ∙ (length_push c.loop.rows.items _ ∙ ap (λ n. n + 1) c.loop.invariant.len);
  none = none-push (λ v. v.items) c.loop.rows.items c.push.new.self.items c.new.result c.in_ok-push.ensures.items c.new.ensures.items c.loop.invariant.none;
}

pub loop-first-init : goal.loop-first-init
loop-first-init c = record {
  len = omega (arith, c.loop.invariant.len, c.loop-test.false, c.loop.auto.counter-end);
  each = λ s t. ((λ l. absurd (c.loop.invariant.none s t l)), λ p. absurd (Contains-none (s, t) p.1));
}

pub loop-first-preserved : goal.loop-first-preserved
loop-first-preserved c =
    let pairs = c.args.pairs.now in
    let i = c.loop-first.first-index in
    let rows = c.loop-first.rows.items in
    let inv = c.loop-first.invariant in
    let lists = map (λ v. v.items) rows in
    elim c.if-first-len.branch [
      | then-first-len+in_ok-push-2 w ↦
          let j = (get_or pairs i (0, 0)).0 in
          let second = (get_or pairs i (0, 0)).1 in
          let v = w.push-then-first-len.new.self in
          let items = ap (λ u. u.items) w.rows-is in
          let inside : (get_or pairs i (0, 0)).0 < length rows = omega (arith, w.if-first-len.true, c.len.ensures) in
          let row : get_or lists j [] ≡ w.index_mut.result.now.items = get_or-map (λ u. u.items) rows j w.index_mut.result.now [] inside ∙ ap (λ u. u.items) (sym w.index_mut.ensures.value) in
          let written : map (λ u. u.items) (set rows j v) ≡ set lists j (get_or lists j [] ++ second ∷ []) = map-set (λ u. u.items) rows j v ∙ ap (λ (l : List ℕ). set lists j l) (w.in_ok-push-2.ensures.items ∙ ap (λ (l : List ℕ). l ++ second ∷ []) (sym row)) in
          record {
            len = ap length items ∙ (length-set rows j v ∙ inv.len);
            each = λ s t. subst (λ (l : List (List ℕ)). Leads l s t ↔ ((s < c.args.count) × Contains (take (i + 1) pairs) (s, t))) (sym (ap (λ l. map (λ u. u.items) l) items ∙ written)) (rows-put pairs i c.args.count c.loop-first-test.true lists (length-map rows (λ u. u.items) ∙ inv.len) inv.each (omega (arith, inside, inv.len)) s t);
          }
      | else-first-len w ↦
          let items = ap (λ v. v.items) w.rows-is in
          record {
            len = ap length items ∙ inv.len;
            each = λ s t. subst (λ l. Leads (map (λ v. v.items) l) s t ↔ ((s < c.args.count) × Contains (take (i + 1) pairs) (s, t))) (sym items) (rows-leave pairs i c.args.count c.loop-first-test.true lists (length-map rows (λ v. v.items) ∙ inv.len) inv.each (omega (arith, w.if-first-len.false, c.len.ensures, inv.len)) s t);
          }
    ]

pub returns-clause-each : goal.returns-clause-each
returns-clause-each c = λ s t. subst (λ (l : List (ℕ × ℕ)). Leads (map (λ v. v.items) c.loop-first.rows.items) s t ↔ ((s < c.args.count) × Contains l (s, t))) (take_all c.loop-first.first-index c.args.pairs.now (omega (arith, c.loop-first-test.false))) (c.loop-first.invariant.each s t)
