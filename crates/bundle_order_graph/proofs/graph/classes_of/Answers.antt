use Rattle.std.proofs.Common.{◌≡◌, ◌<◌, ◌∷◌, [], ◌++◌, ℕ, List, map, length, get_or, set, sym, ap, ◌∙◌, arith}
use Rattle.std.proofs.lemmas.List.{get_or-map, get_or_read, length-map, length-set, map-set}
use Rattle.bundle_order_graph.specs.Ranked.{HasRank}
use Rattle.bundle_order_graph.proofs.CycleLemmas.{members_done}
use Rattle.bundle_order_graph.proofs.ClassLemmas.{ClassesTo-next}
use Rattle.bundle_order_graph.proofs.graph.classes_of.Goals as goal

pub loop-at-preserved : goal.loop-at-preserved
loop-at-preserved c =
    let ranks = c.args.ranks.now in
    let list = c.args.list.now in
    let rows = c.loop-at.classes.items in
    let at = c.loop-at.at in
    let rank = get_or ranks at 0 in
    let within : at < length list = c.loop-at-test.true in
    let small : rank < length ranks = c.requires.small at (omega (arith, within, c.requires.len)) in
    let inside : rank < length rows = omega (arith, small, c.requires.len, c.loop-at.invariant.len) in
    let new = c.push-in-loop-at.new.self in
    let x = c.index-list-at.result in
    let row : c.index_mut.result.now.items ≡ get_or (map (λ v. v.items) rows) rank [] = ap (λ v. v.items) c.index_mut.ensures.value ∙ sym (get_or-map (λ v. v.items) rows rank c.index_mut.result.now [] inside) in
    let written : map (λ v. v.items) (set rows rank new) ≡ set (map (λ v. v.items) rows) rank (get_or (map (λ v. v.items) rows) rank [] ++ x ∷ []) = map-set (λ v. v.items) rows rank new ∙ ap (λ (l : List ℕ). set (map (λ v. v.items) rows) rank l) (c.in_ok-push-2.ensures.items ∙ ap (λ (l : List ℕ). l ++ x ∷ []) row) in
    record {
      len = length-set rows rank new ∙ c.loop-at.invariant.len;
      each = ClassesTo-next ranks list (map (λ v. v.items) rows) (map (λ v. v.items) (set rows rank new)) at x c.requires.once within (get_or_read list at x within c.index-list-at.is 0) (omega (arith, inside, length-map rows (λ v. v.items))) written c.loop-at.invariant.each;
    }

pub returns-clause-each : goal.returns-clause-each
returns-clause-each c = λ rank h. members_done (HasRank c.args.ranks.now c.args.list.now rank) c.args.list.now c.loop-at.at (get_or (map (λ v. v.items) c.loop-at.classes.items) rank []) c.loop-at-test.false (c.loop-at.invariant.each rank h)
