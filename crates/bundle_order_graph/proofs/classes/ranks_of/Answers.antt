use Rattle.std.proofs.Common.{rules, ◌≡◌, ℕ, ◌+◌, ◌-◌, ◌<◌, [], List, Option, None, map, unwrap_or, length, get_or, sym, ap, ◌∙◌, subst, arith}
use Rattle.std.proofs.lemmas.List.{length-map, get_or_default, with_items_is}
use Rattle.std.proofs.lemmas.Result.{IfOk-weaker}
use Rattle.bundle_order_graph.specs.Classes.{AreRanks, AreReversed, AreWithin, IsPostOrder, IsRanked, Ranking, rank_of}
use Rattle.bundle_order_graph.proofs.LeadLemmas.{AreWithin-reversed}
use Rattle.bundle_order_graph.proofs.RankingLemmas.{none_from_test, some_from_test, Ranking-ends, AreRanks-from_ranking}
use Rattle.bundle_order_graph.proofs.classes.ranks_of.Goals as goal
use Rattle.bundle_order_graph.proofs.classes.ranks_of.Goals.{then-is_none+in_ok-rank_class, else-is_none}

pub rank_class-requires-clause-within : goal.rank_class-requires-clause-within
rank_class-requires-clause-within c =
    let E : List (List ℕ) = map (λ v. v.items) c.args.edges.now in
    let users = c.in_ok-users.users.items in
    subst (λ l. AreWithin (map (λ v. v.items) l)) (sym c.deref.ensures.value) (AreWithin-reversed E (map (λ v. v.items) users) (length-map users (λ v. v.items) ∙ (c.in_ok-users.ensures.len ∙ sym (length-map c.args.edges.now (λ v. v.items)))) c.in_ok-users.ensures.each)

pub loop-done-preserved : goal.loop-done-preserved
loop-done-preserved c =
    let E : List (List ℕ) = map (λ v. v.items) c.args.edges.now in
    let users = c.in_ok-users.users.items in
    let listed = c.in_ok-listed.listed.items in
    let ranks = c.loop-done.ranks.items in
    let place = c.len.result - 1 - c.loop-done.done in
    let total : c.len.result ≡ length listed = search rules in
    let order : IsPostOrder E listed = c.in_ok-listed.ensures in
    let below : c.loop-done.done < length listed = search rules in
    let inside : place < length listed = omega (arith, below, total) in
    let above : Ranking E listed (place + 1) ranks [] = subst (λ n. Ranking E listed n ranks []) (omega (arith, below, total)) c.loop-done.invariant in
    let last_in : get_or listed place 0 < length ranks = omega (arith, order.within place inside, above.len) in
    let read : get_or listed place 0 ≡ c.index.result.now = get_or_default listed place 0 c.index.result.now inside ∙ sym c.index.ensures in
    let rank : rank_of ranks (get_or listed place 0) ≡ c.index-in-loop-done.result.now = ap (λ x. rank_of ranks x) read ∙ (get_or_default ranks c.index.result.now None c.index-in-loop-done.result.now (omega (arith, last_in, read)) ∙ sym c.index-in-loop-done.ensures) in
    let next : place ≡ length listed - (c.loop-done.done + 1) = omega (arith, below, total) in
    elim c.if-is_none.branch [
      | then-is_none+in_ok-rank_class w ↦
          let new = w.rank_class.new.ranks in
          let none : rank_of ranks (get_or listed place 0) ≡ None = rank ∙ none_from_test c.index-in-loop-done.result.now c.is_none.result c.is_none.ensures w.if-is_none.true in
          let step : (edges : List (List ℕ)) → AreReversed edges (map (λ v. v.items) users) → IsPostOrder edges listed → rank_of ranks (get_or listed place 0) ≡ None → Ranking edges listed (place + 1) ranks [] → Ranking edges listed place new [] = subst (λ (r : List (Option ℕ)). (edges : List (List ℕ)) → AreReversed edges (map (λ v. v.items) users) → IsPostOrder edges listed → rank_of r (get_or listed place 0) ≡ None → Ranking edges listed (place + 1) r [] → Ranking edges listed place new []) w.deref_mut.ensures.value (subst (λ (o : List ℕ). (edges : List (List ℕ)) → AreReversed edges (map (λ v. v.items) users) → IsPostOrder edges o → rank_of w.deref_mut.result.now (get_or o place 0) ≡ None → Ranking edges o (place + 1) w.deref_mut.result.now [] → Ranking edges o place new []) w.deref-then-is_none.ensures.value (subst (λ u. (edges : List (List ℕ)) → AreReversed edges (map (λ v. v.items) u) → IsPostOrder edges w.deref-then-is_none.result.now → rank_of w.deref_mut.result.now (get_or w.deref-then-is_none.result.now place 0) ≡ None → Ranking edges w.deref-then-is_none.result.now (place + 1) w.deref_mut.result.now [] → Ranking edges w.deref-then-is_none.result.now place new []) w.deref.ensures.value w.in_ok-rank_class.ensures)) in
          let back : c.if-is_none.ranks.items ≡ new = ap (λ v. v.items) w.ranks-is ∙ with_items_is c.loop-done.ranks new (w.rank_class.auto.ranks ∙ w.deref_mut.ensures.len) in
          subst (λ n. Ranking E listed n c.if-is_none.ranks.items []) next (subst (λ (l : List (Option ℕ)). Ranking E listed place l []) (sym back) (step E c.in_ok-users.ensures.each order none above))
      | else-is_none w ↦
          let there : IsRanked ranks (get_or listed place 0) = let some = some_from_test c.index-in-loop-done.result.now c.is_none.result c.is_none.ensures w.if-is_none.false in (some.0, rank ∙ some.1) in
          subst (λ n. Ranking E listed n c.if-is_none.ranks.items []) next (subst (λ (l : List (Option ℕ)). Ranking E listed place l []) (sym (ap (λ v. v.items) w.ranks-is)) (Ranking-ends E listed order place ranks above there))
    ]

pub returns : goal.returns
returns c =
    let E : List (List ℕ) = map (λ v. v.items) c.args.edges.now in
    let listed = c.in_ok-listed.listed.items in
    let ranks = c.loop-done.ranks.items in
    let none_left : length listed - c.loop-done.done ≡ 0 = search rules in
    let all : Ranking E listed 0 ranks [] = subst (λ n. Ranking E listed n ranks []) none_left c.loop-done.invariant in
    let good : AreRanks E (map (λ r. unwrap_or r 0) ranks) = AreRanks-from_ranking E listed c.in_ok-listed.ensures ranks all c.requires.within in
    IfOk-weaker c.numbers_of.result (λ v. v.items ≡ map (λ r. unwrap_or r 0) c.deref-2.result.now) (λ v. AreRanks E v.items) (λ v e. subst (λ (l : List ℕ). AreRanks E l) (sym (e ∙ ap (λ l. map (λ r. unwrap_or r 0) l) c.deref-2.ensures.value)) good) c.numbers_of.ensures
