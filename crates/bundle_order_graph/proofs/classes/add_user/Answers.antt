use Rattle.std.proofs.Common.{rules, ◌≡◌, ℕ, ◌<◌, ◌∷◌, [], ◌++◌, List, map, length, get_or, set, sym, ap, ◌∙◌, inl, inr, arith}
use Rattle.std.proofs.lemmas.List.{get_or-map, length-map, length-set, map-set}
use Rattle.std.proofs.lemmas.List.Elements.{Contains-get_or}
use Rattle.bundle_order_graph.proofs.LeadLemmas.{IsBefore-all, users-step}
use Rattle.bundle_order_graph.proofs.classes.add_user.Goals as goal

pub bounds-users-end : goal.bounds-users-end
bounds-users-end c = omega (arith, c.requires.within _ (Contains-get_or c.args.ends.now c.loop-end.end-index 0 c.loop-end-test.true), c.loop-end.invariant.len)

pub offset_bounds-users-end : goal.offset_bounds-users-end
offset_bounds-users-end c =
    let inside : get_or c.args.ends.now c.loop-end.end-index 0 < length c.loop-end.users = omega (arith, c.requires.within _ (Contains-get_or c.args.ends.now c.loop-end.end-index 0 c.loop-end-test.true), c.loop-end.invariant.len) in
    search rules

pub loop-end-preserved : goal.loop-end-preserved
loop-end-preserved c =
    let users = c.loop-end.users in
    let n = c.loop-end.end-index in
    let end = get_or c.args.ends.now n 0 in
    let inside : end < length users = omega (arith, c.requires.within _ (Contains-get_or c.args.ends.now n 0 c.loop-end-test.true), c.loop-end.invariant.len) in
    let row : get_or (map (λ v. v.items) users) end [] ≡ (get_or users end c.index-users-end.result).items = get_or-map (λ v. v.items) users end c.index-users-end.result [] inside in
    let written : map (λ v. v.items) (set users end c.push.new.self) ≡ set (map (λ v. v.items) users) end (get_or (map (λ v. v.items) users) end [] ++ c.args.user ∷ []) = map-set (λ v. v.items) users end c.push.new.self ∙ ap (λ (l : List ℕ). set (map (λ v. v.items) users) end l) (c.in_ok-push.ensures.items ∙ ap (λ (l : List ℕ). l ++ c.args.user ∷ []) (sym row)) in
    record {
      len = length-set users end c.push.new.self ∙ c.loop-end.invariant.len;
      added = users-step (map (λ v. v.items) c.args.users.now) (map (λ v. v.items) users) c.args.ends.now c.args.user n (omega (arith, inside, length-map users (λ v. v.items))) c.loop-end.invariant.added (map (λ v. v.items) (set users end c.push.new.self)) written;
    }

pub returns-clause-added : goal.returns-clause-added
returns-clause-added c = λ s t. let all = IsBefore-all c.args.ends.now c.loop-end.end-index t (omega (arith, c.loop-end-test.false, c.loop-end.auto.end-index-end)) in let so_far = c.loop-end.invariant.added s t in (λ l. elim (so_far.0 l) [ inl o ↦ inl o | inr u ↦ inr (u.0, all.0 u.1) ], λ o. so_far.1 (elim o [ inl p ↦ inl p | inr u ↦ inr (u.0, all.1 u.1) ]))
