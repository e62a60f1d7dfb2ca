use Rattle.std.proofs.Common.{rules, ◌≡◌, ℕ, ◌+◌, ◌<◌, List, Option, Some, None, Contains, length, get_or, set, sym, ap, ◌∙◌, subst, inl, inr, arith}
use Rattle.std.proofs.lemmas.List.{get_or_default}
use Rattle.std.proofs.lemmas.List.Elements.{Contains-get_or}
use Rattle.bundle_order_graph.specs.Classes.{IsRanked, RanksUsers, rank_of}
use Rattle.bundle_order_graph.proofs.LeadLemmas.{before_or_at}
use Rattle.bundle_order_graph.proofs.RankingLemmas.{none_from_test, some_from_test, RanksUsers-one, rank_now, rank_still}
use Rattle.bundle_order_graph.proofs.classes.rank_users.Goals as goal
use Rattle.bundle_order_graph.proofs.classes.rank_users.Goals.{then-is_none+in_ok-push, else-is_none}

pub bounds-ranks-user : goal.bounds-ranks-user
bounds-ranks-user c = omega (arith, c.requires _ (Contains-get_or c.args.users.now c.loop-user.user-index 0 c.loop-user-test.true), c.loop-user.auto.ranks)

pub offset_bounds-ranks-user : goal.offset_bounds-ranks-user
offset_bounds-ranks-user c =
    let inside : get_or c.args.users.now c.loop-user.user-index 0 < length c.loop-user.ranks = omega (arith, c.requires _ (Contains-get_or c.args.users.now c.loop-user.user-index 0 c.loop-user-test.true), c.loop-user.auto.ranks) in
    search rules

pub bounds-ranks-user-then-is_none : goal.bounds-ranks-user-then-is_none
bounds-ranks-user-then-is_none c = omega (arith, c.requires _ (Contains-get_or c.args.users.now c.loop-user.user-index 0 c.loop-user-test.true), c.loop-user.auto.ranks)

pub offset_bounds-ranks-user-then-is_none : goal.offset_bounds-ranks-user-then-is_none
offset_bounds-ranks-user-then-is_none c =
    let inside : get_or c.args.users.now c.loop-user.user-index 0 < length c.loop-user.ranks = omega (arith, c.requires _ (Contains-get_or c.args.users.now c.loop-user.user-index 0 c.loop-user-test.true), c.loop-user.auto.ranks) in
    search rules

below_next : (P : ℕ → Type 0) (n : ℕ) → ((k : ℕ) → k < n → P k) → P n → (k : ℕ) → k < n + 1 → P k
below_next P n below here k h = elim (before_or_at k n h) [ inl l ↦ below k l | inr e ↦ subst P (sym e) here ]

pub loop-user-preserved : goal.loop-user-preserved
loop-user-preserved c =
    let users = c.args.users.now in
    let index = c.loop-user.user-index in
    let user = get_or users index 0 in
    let ranks = c.loop-user.ranks in
    let there : Contains users user = Contains-get_or users index 0 c.loop-user-test.true in
    let inside : user < length ranks = omega (arith, c.requires user there, c.loop-user.auto.ranks) in
    elim c.if-is_none.branch [
      | then-is_none+in_ok-push w ↦
          let none : rank_of ranks user ≡ None = none_from_test (rank_of ranks user) c.is_none.result c.is_none.ensures w.if-is_none.true in
          record {
            ranks = subst (λ (l : List (Option ℕ)). RanksUsers users c.args.rank c.args.ranks.now c.args.waiting.now.items l c.if-is_none.waiting.items) (sym w.ranks-is) (subst (λ (l : List ℕ). RanksUsers users c.args.rank c.args.ranks.now c.args.waiting.now.items (set ranks user (Some c.args.rank)) l) (sym (ap (λ v. v.items) w.waiting-is ∙ w.in_ok-push.ensures.items)) (RanksUsers-one users c.args.rank c.args.ranks.now c.args.waiting.now.items ranks c.loop-user.waiting.items c.loop-user.invariant.ranks user there inside none));
            all = subst (λ (l : List (Option ℕ)). (k : ℕ) → k < index + 1 → IsRanked l (get_or users k 0)) (sym w.ranks-is) (below_next (λ k. IsRanked (set ranks user (Some c.args.rank)) (get_or users k 0)) index (λ k h. let o = c.loop-user.invariant.all k h in (o.0, rank_still ranks user c.args.rank inside none (get_or users k 0) o.0 o.1)) (c.args.rank, rank_now ranks user c.args.rank inside none));
          }
      | else-is_none w ↦
          let here : IsRanked ranks user = some_from_test (rank_of ranks user) c.is_none.result c.is_none.ensures w.if-is_none.false in
          record {
            ranks = subst (λ (l : List (Option ℕ)). RanksUsers users c.args.rank c.args.ranks.now c.args.waiting.now.items l c.if-is_none.waiting.items) (sym w.ranks-is) (subst (λ (l : List ℕ). RanksUsers users c.args.rank c.args.ranks.now c.args.waiting.now.items ranks l) (sym (ap (λ v. v.items) w.waiting-is)) c.loop-user.invariant.ranks);
            all = subst (λ (l : List (Option ℕ)). (k : ℕ) → k < index + 1 → IsRanked l (get_or users k 0)) (sym w.ranks-is) (below_next (λ k. IsRanked ranks (get_or users k 0)) index c.loop-user.invariant.all here);
          }
    ]

pub returns-clause-all : goal.returns-clause-all
returns-clause-all c = λ x h. subst (λ y. IsRanked c.loop-user.ranks y) (get_or_default c.args.users.now h.0 0 x h.1 ∙ h.2) (c.loop-user.invariant.all h.0 (omega (arith, h.1, c.loop-user-test.false)))
