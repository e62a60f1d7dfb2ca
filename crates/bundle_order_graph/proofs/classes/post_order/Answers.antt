use Rattle.std.proofs.Common.{◌≡◌, ℕ, ◌<◌, ◌∷◌, [], ◌++◌, List, Bool, true, false, map, length, get_or, set, refl, sym, ap, ◌∙◌, subst, inl, inr, arith}
use Rattle.std.proofs.lemmas.Bool.{false≢true}
use Rattle.std.proofs.lemmas.List.{length-map, get_or_default, with_items_is}
use Rattle.std.specs.Vec.{with_item}
use Rattle.bundle_order_graph.specs.declared.classes.Visit.{Visit}
use Rattle.bundle_order_graph.specs.Classes.{IsBegun, Walking}
use Rattle.bundle_order_graph.proofs.LeadLemmas.{before_or_at}
use Rattle.bundle_order_graph.proofs.WalkingLemmas.{begun_now, begun_still, Walking-opens, IsPostOrder-from_walking}
use Rattle.bundle_order_graph.proofs.classes.post_order.Goals as goal
use Rattle.bundle_order_graph.proofs.classes.post_order.Goals.{then-not-index+in_ok-push+in_ok-walk, else-not-index}

pub walk-requires-clause-walking : goal.walk-requires-clause-walking
walk-requires-clause-walking c =
    let E : List (List ℕ) = map (λ v. v.items) c.args.edges.now in
    let begun = c.loop-start.begun.items in
    let start = c.loop-start.start in
    let listed = c.loop-start.listed.items in
    let first : Visit = record { item = start; next = 0 } in
    let within : start < length E = omega (arith, c.loop-start-test.true, length-map c.args.edges.now (λ v. v.items)) in
    let inside : start < length begun = omega (arith, within, c.loop-start.invariant.walking.len) in
    let unbegun : get_or begun start false ≡ false = get_or_default begun start false c.index.result.now inside ∙ (sym c.index.ensures ∙ c.if-not-index.true) in
    let now : c.deref_mut.result.now ≡ set begun start true = c.deref_mut.ensures.value in
    let visits : c.push.new.self.items ≡ [] ++ first ∷ [] = c.in_ok-push.ensures.items ∙ ap (λ (l : List Visit). l ++ first ∷ []) c.loop-start.invariant.over in
    subst (λ (l : List Bool). Walking E l c.push.new.self.items listed) (sym now) (subst (λ (l : List Visit). Walking E (set begun start true) l listed) (sym visits) (Walking-opens E begun [] listed c.loop-start.invariant.walking first within (λ b. false≢true (sym unbegun ∙ b)) refl (λ i h. absurd (omega (arith, h)))))

pub loop-start-preserved : goal.loop-start-preserved
loop-start-preserved c =
    let E : List (List ℕ) = map (λ v. v.items) c.args.edges.now in
    let begun = c.loop-start.begun.items in
    let start = c.loop-start.start in
    let inside : start < length begun = omega (arith, c.loop-start-test.true, length-map c.args.edges.now (λ v. v.items), c.loop-start.invariant.walking.len) in
    elim c.if-not-index.branch [
      | then-not-index+in_ok-push+in_ok-walk w ↦
          let back : c.if-not-index.begun.items ≡ w.walk.new.begun = ap (λ v. v.items) w.begun-is ∙ with_items_is (with_item c.loop-start.begun start true) w.walk.new.begun (w.walk.auto.begun ∙ w.deref_mut.ensures.len) in
          let kept : (t : ℕ) → IsBegun (set begun start true) t → IsBegun w.walk.new.begun t = λ t b. w.in_ok-walk.ensures.kept t (subst (λ (l : List Bool). IsBegun l t) (sym w.deref_mut.ensures.value) b) in
          record {
            walking = subst (λ (l : List Bool). Walking E l [] c.if-not-index.listed.items) (sym back) (subst (λ (l : List ℕ). Walking E w.walk.new.begun [] l) (sym (ap (λ v. v.items) w.listed-is)) w.in_ok-walk.ensures.walking);
            over = ap (λ v. v.items) w.visits-is ∙ w.in_ok-walk.ensures.over;
            begun = λ t h. subst (λ (l : List Bool). IsBegun l t) (sym back) (kept t (elim (before_or_at t start h) [ inl l ↦ begun_still begun start inside t (c.loop-start.invariant.begun t l) | inr e ↦ subst (λ x. IsBegun (set begun start true) x) (sym e) (begun_now begun start inside) ]));
          }
      | else-not-index w ↦
          let same : c.if-not-index.begun.items ≡ begun = ap (λ v. v.items) w.begun-is in
          let there : IsBegun begun start = get_or_default begun start false c.index.result.now inside ∙ (sym c.index.ensures ∙ w.if-not-index.false) in
          record {
            walking = subst (λ (l : List Bool). Walking E l [] c.if-not-index.listed.items) (sym same) (subst (λ (l : List ℕ). Walking E begun [] l) (sym (ap (λ v. v.items) w.listed-is)) c.loop-start.invariant.walking);
            over = ap (λ v. v.items) w.visits-is ∙ c.loop-start.invariant.over;
            begun = λ t h. subst (λ (l : List Bool). IsBegun l t) (sym same) (elim (before_or_at t start h) [ inl l ↦ c.loop-start.invariant.begun t l | inr e ↦ subst (λ x. IsBegun begun x) (sym e) there ]);
          }
    ]

pub returns : goal.returns
returns c = IsPostOrder-from_walking (map (λ v. v.items) c.args.edges.now) c.loop-start.begun.items c.loop-start.listed.items c.loop-start.invariant.walking (λ t h. c.loop-start.invariant.begun t (omega (arith, h, length-map c.args.edges.now (λ v. v.items), c.loop-start-test.false)))
