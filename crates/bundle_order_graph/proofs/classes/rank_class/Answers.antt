use Rattle.std.proofs.Common.{rules, ◌≡◌, ℕ, ◌+◌, ◌<◌, ◌∷◌, [], ◌++◌, List, Some, None, Contains, map, length, get_or, set, sym, ap, ◌∙◌, subst, inl, inr, arith}
use Rattle.std.proofs.lemmas.List.{get_or-map, length-map, length-set, get_or-set_same}
use Rattle.std.proofs.lemmas.List.Elements.{Contains-push, Contains-push_cases, Contains-append_left}
use Rattle.bundle_order_graph.specs.Classes.{Ranking, RanksUsers}
use Rattle.bundle_order_graph.proofs.RankingLemmas.{ranked_within, Ranking-begins, Ranking-goes_on, Ranking-ends}
use Rattle.bundle_order_graph.proofs.classes.rank_class.Goals as goal

pub loop-item-init : goal.loop-item-init
loop-item-init c =
    let last = get_or c.args.listed.now c.args.place 0 in
    let waiting : c.push.new.self.items ≡ [] ++ last ∷ [] = c.in_ok-push.ensures.items ∙ ap (λ (l : List ℕ). l ++ last ∷ []) c.new-waiting.ensures.items in
    record {
      len = length-set c.args.ranks.now last (Some c.args.place) ∙ c.requires.len;
      inside = λ x h. elim (Contains-push_cases [] last x (subst (λ (l : List ℕ). Contains l x) waiting h)) [
        | inl none ↦ absurd (omega (arith, none.1))
        | inr e ↦ subst (λ y. y < length c.args.users.now) e c.requires.last_in
      ];
      last = (c.args.place, get_or-set_same c.args.ranks.now last (Some c.args.place) None (omega (arith, c.requires.last_in, c.requires.len)));
      ranking = λ edges reversed order none w. subst (λ (l : List ℕ). Ranking edges c.args.listed.now (c.args.place + 1) (set c.args.ranks.now last (Some c.args.place)) l) (sym waiting) (Ranking-begins edges c.args.listed.now order c.args.place c.args.ranks.now c.requires.place_in w none);
    }

pub bounds-users-item : goal.bounds-users-item
bounds-users-item c = c.loop-item.invariant.inside c.in-Some.item (subst (λ (l : List ℕ). Contains l c.in-Some.item) (sym c.in-Some.ensures.items) (Contains-push c.pop.new.self.items c.in-Some.item))

pub offset_bounds-users-item : goal.offset_bounds-users-item
offset_bounds-users-item c =
    let inside : c.in-Some.item < length c.args.users.now = c.loop-item.invariant.inside c.in-Some.item (subst (λ (l : List ℕ). Contains l c.in-Some.item) (sym c.in-Some.ensures.items) (Contains-push c.pop.new.self.items c.in-Some.item)) in
    search rules

pub rank_users-requires : goal.rank_users-requires
rank_users-requires c =
    let item = c.in-Some.item in
    let users = c.args.users.now in
    let inside : item < length users = c.loop-item.invariant.inside item (subst (λ (l : List ℕ). Contains l item) (sym c.in-Some.ensures.items) (Contains-push c.pop.new.self.items item)) in
    let row : get_or (map (λ v. v.items) users) item [] ≡ c.deref.result.now = get_or-map (λ v. v.items) users item c.index-users-item.result [] inside ∙ (ap (λ v. v.items) (sym c.index-users-item.is) ∙ sym c.deref.ensures.value) in
    λ x h. omega (arith, c.requires.within item x (subst (λ (l : List ℕ). Contains l x) (sym row) h), length-map users (λ v. v.items), c.loop-item.invariant.len)

pub loop-item-preserved : goal.loop-item-preserved
loop-item-preserved c =
    let item = c.in-Some.item in
    let users = c.args.users.now in
    let rest = c.pop.new.self.items in
    let top = c.in-Some.ensures.items in
    let inside : item < length users = c.loop-item.invariant.inside item (subst (λ (l : List ℕ). Contains l item) (sym top) (Contains-push rest item)) in
    let row : get_or (map (λ v. v.items) users) item [] ≡ c.deref.result.now = get_or-map (λ v. v.items) users item c.index-users-item.result [] inside ∙ (ap (λ v. v.items) (sym c.index-users-item.is) ∙ sym c.deref.ensures.value) in
    let step : RanksUsers c.deref.result.now c.args.place c.loop-item.ranks rest c.rank_users.new.ranks c.rank_users.new.waiting.items = c.in_ok-rank_users.ensures.ranks in
    let len : length c.rank_users.new.ranks ≡ length users = step.len ∙ c.loop-item.invariant.len in
    record {
      len = len;
      inside = λ x h. elim (step.waits x h) [
        | inl o ↦ c.loop-item.invariant.inside x (subst (λ (l : List ℕ). Contains l x) (sym top) (Contains-append_left rest (item ∷ []) x o))
        | inr r ↦ omega (arith, ranked_within c.rank_users.new.ranks x c.args.place r, len)
      ];
      last = let o = c.loop-item.invariant.last in (o.0, step.kept (get_or c.args.listed.now c.args.place 0) o.0 o.1);
      ranking = λ edges reversed order none w. Ranking-goes_on edges c.args.listed.now order c.args.place c.loop-item.ranks c.rank_users.new.ranks rest c.rank_users.new.waiting.items item c.deref.result.now (subst (λ (l : List ℕ). Ranking edges c.args.listed.now (c.args.place + 1) c.loop-item.ranks l) top (c.loop-item.invariant.ranking edges reversed order none w)) (λ x. (λ h. (reversed x item).0 (subst (λ (l : List ℕ). Contains l x) (sym row) h), λ h. subst (λ (l : List ℕ). Contains l x) row ((reversed x item).1 h))) step c.in_ok-rank_users.ensures.all;
    }

pub returns : goal.returns
returns c =
    let empty : c.loop-item.waiting.items ≡ [] = search rules in
    λ edges reversed order none w. Ranking-ends edges c.args.listed.now order c.args.place c.loop-item.ranks (subst (λ (l : List ℕ). Ranking edges c.args.listed.now (c.args.place + 1) c.loop-item.ranks l) empty (c.loop-item.invariant.ranking edges reversed order none w)) c.loop-item.invariant.last
