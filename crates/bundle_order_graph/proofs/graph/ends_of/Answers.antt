use Rattle.std.proofs.Common.{◌≡◌, ◌+◌, ◌<◌, ◌∷◌, [], ◌++◌, ℕ, List, map, length, get_or, set, sym, ap, ◌∙◌, arith}
use Rattle.std.proofs.lemmas.List.{get_or-map, length-map, length_push, length-set, map-set}
use Rattle.bundle_order_graph.proofs.LeadLemmas.{none-push}
use Rattle.bundle_order_graph.proofs.ClassLemmas.{PairsTo-all, PairsTo-next}
use Rattle.bundle_order_graph.proofs.graph.ends_of.Goals as goal

pub loop-preserved : goal.loop-preserved
loop-preserved c = record {
  len = ap length c.in_ok-push.ensures.items ∙ (length_push c.loop.edges.items _ ∙ ap (λ n. n + 1) c.loop.invariant.len);
  none = none-push (λ v. v.items) c.loop.edges.items c.push.new.self.items c.new.result c.in_ok-push.ensures.items c.new.ensures.items c.loop.invariant.none;
}

pub loop-pair-init : goal.loop-pair-init
loop-pair-init c = record {
  len = omega (arith, c.loop.invariant.len, c.loop-test.false, c.loop.auto.counter-end);
  exact = λ i j. (λ l. absurd (c.loop.invariant.none i j l), λ p. absurd (omega (arith, p.1)));
}

pub loop-pair-preserved : goal.loop-pair-preserved
loop-pair-preserved c =
    let pairs = c.args.pairs.now in
    let rows = c.loop-pair.edges.items in
    let n = c.loop-pair.pair-index in
    let pair = get_or pairs n (0, 0) in
    let within = c.requires n (0, 0) c.loop-pair-test.true in
    let inside : pair.0 < length rows = omega (arith, within.0, c.loop-pair.invariant.len) in
    let new = c.push-in-loop-pair.new.self in
    let row : c.index_mut.result.now.items ≡ get_or (map (λ v. v.items) rows) pair.0 [] = ap (λ v. v.items) c.index_mut.ensures.value ∙ sym (get_or-map (λ v. v.items) rows pair.0 c.index_mut.result.now [] inside) in
    let written : map (λ v. v.items) (set rows pair.0 new) ≡ set (map (λ v. v.items) rows) pair.0 (get_or (map (λ v. v.items) rows) pair.0 [] ++ pair.1 ∷ []) = map-set (λ v. v.items) rows pair.0 new ∙ ap (λ (l : List ℕ). set (map (λ v. v.items) rows) pair.0 l) (c.in_ok-push-2.ensures.items ∙ ap (λ (l : List ℕ). l ++ pair.1 ∷ []) row) in
    record {
      len = length-set rows pair.0 new ∙ c.loop-pair.invariant.len;
      exact = PairsTo-next pairs n (map (λ v. v.items) rows) (map (λ v. v.items) (set rows pair.0 new)) (omega (arith, inside, length-map rows (λ v. v.items))) written c.loop-pair.invariant.exact;
    }

pub returns-clause-exact : goal.returns-clause-exact
returns-clause-exact c = λ i j.
    let all = PairsTo-all c.args.pairs.now c.loop-pair.pair-index i j (omega (arith, c.loop-pair-test.false, c.loop-pair.auto.pair-index-end)) in
    let so_far = c.loop-pair.invariant.exact i j in
    (λ l. all.0 (so_far.0 l), λ e. so_far.1 (all.1 e))
