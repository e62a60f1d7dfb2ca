use Rattle.std.proofs.Common.{◌≡◌, ℕ, ◌+◌, ◌⊎◌, ◌↔◌, [], List, Contains, map, length, get_or, sym, ap, ◌∙◌, subst, arith}
use Rattle.std.proofs.lemmas.List.{get_or-map, length-map, length_push, with_items_is}
use Rattle.bundle_order_graph.specs.Classes.{Leads}
use Rattle.bundle_order_graph.proofs.LeadLemmas.{none-push, AreNoted, AreNoted-next, AreReversed-from_noted}
use Rattle.bundle_order_graph.proofs.classes.reversed.Goals as goal

pub loop-preserved : goal.loop-preserved
loop-preserved c = record {
  len = ap length c.in_ok-push.ensures.items ∙ (length_push c.loop.users.items _ ∙ ap (λ n. n + 1) c.loop.invariant.len);
  none = none-push (λ v. v.items) c.loop.users.items c.push.new.self.items c.new.result c.in_ok-push.ensures.items c.new.ensures.items c.loop.invariant.none;
}

pub loop-user-init : goal.loop-user-init
loop-user-init c = record {
  len = omega (arith, c.loop.invariant.len, c.loop-test.false, c.loop.auto.counter-end);
  noted = λ s t. (λ l. absurd (c.loop.invariant.none t s l), λ p. absurd (omega (arith, p.1)));
}

pub add_user-requires : goal.add_user-requires
add_user-requires c =
    let edges = c.args.edges.now in
    let user = c.loop-user.user in
    let row : get_or (map (λ v. v.items) edges) user [] ≡ c.deref.result.now = get_or-map (λ v. v.items) edges user c.index-edges-user.result [] c.loop-user-test.true ∙ (ap (λ v. v.items) (sym c.index-edges-user.is) ∙ sym c.deref.ensures.value) in
    record { within = λ t h. omega (arith, c.requires.within user t (subst (λ (l : List ℕ). Contains l t) (sym row) h), length-map edges (λ v. v.items), c.loop-user.invariant.len, ap length c.deref_mut.ensures.value) }

pub loop-user-preserved : goal.loop-user-preserved
loop-user-preserved c =
    let edges = c.args.edges.now in
    let user = c.loop-user.user in
    let users = c.loop-user.users.items in
    let users' = c.add_user.new.users in
    let row : get_or (map (λ v. v.items) edges) user [] ≡ c.deref.result.now = get_or-map (λ v. v.items) edges user c.index-edges-user.result [] c.loop-user-test.true ∙ (ap (λ v. v.items) (sym c.index-edges-user.is) ∙ sym c.deref.ensures.value) in
    let back = with_items_is c.loop-user.users users' (c.add_user.ensures.len ∙ c.deref_mut.ensures.len) in
    let added : (s t : ℕ) → Leads (map (λ v. v.items) users') t s ↔ (Leads (map (λ v. v.items) users) t s ⊎ ((s ≡ user) × Leads (map (λ v. v.items) edges) user t)) = subst (λ (l : List ℕ). (s t : ℕ) → Leads (map (λ v. v.items) users') t s ↔ (Leads (map (λ v. v.items) users) t s ⊎ ((s ≡ user) × Contains l t))) (sym row) (subst (λ l. (s t : ℕ) → Leads (map (λ v. v.items) users') t s ↔ (Leads (map (λ v. v.items) l) t s ⊎ ((s ≡ user) × Contains c.deref.result.now t))) c.deref_mut.ensures.value c.in_ok-add_user.ensures.added) in
    record {
      len = ap length back ∙ (c.add_user.ensures.len ∙ (ap length c.deref_mut.ensures.value ∙ c.loop-user.invariant.len));
      noted = subst (λ l. AreNoted (map (λ v. v.items) edges) (map (λ v. v.items) l) (user + 1)) (sym back) (AreNoted-next (map (λ v. v.items) edges) (map (λ v. v.items) users) (map (λ v. v.items) users') user c.loop-user.invariant.noted added);
    }

pub returns-clause-each : goal.returns-clause-each
returns-clause-each c = AreReversed-from_noted (map (λ v. v.items) c.args.edges.now) (map (λ v. v.items) c.loop-user.users.items) c.loop-user.user (omega (arith, length-map c.args.edges.now (λ v. v.items), c.loop-user-test.false)) c.loop-user.invariant.noted
