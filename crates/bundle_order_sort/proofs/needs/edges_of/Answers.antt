use Rattle.std.proofs.Common.{◌≡◌, ℕ, ◌+◌, ◌↔◌, List, [], Contains, map, length, get_or, refl, sym, ap, ◌∙◌, subst, arith}
use Rattle.std.specs.List.{filter}
use Rattle.std.proofs.lemmas.Option.{slice_get_read}
use Rattle.std.proofs.lemmas.List.{length-map, length_push, get_or-map}
use Rattle.bundle_order_sort.specs.declared.Reference.{Reference}
use Rattle.bundle_order_sort.specs.Items.{IsListEdge, is_within, number_behind, refers_within}
use Rattle.bundle_order_graph.proofs.LeadLemmas.{Leads-map_push, Leads-all}
use Rattle.bundle_order_sort.proofs.HubLemmas.{ends-of_item, ends-of_list, IsEdge-from}
use Rattle.bundle_order_sort.proofs.needs.edges_of.Goals as goal

pub loop-item-preserved : goal.loop-item-preserved
loop-item-preserved c =
    let items = c.args.items.now in
    let lists : List (List ℕ) = map (λ v. v.items) c.args.lists.now in
    let n = c.loop-item.item-index in
    let item = c.item-item.result in
    let edges = c.loop-item.edges.items in
    let at = slice_get_read items (length items) n item refl c.loop-item-test.true c.item-item.is in
    let same : c.in_ok-ends.ends.items ≡ map (number_behind (length items)) (filter (refers_within (length lists)) item.references.items) =
    c.in_ok-ends.ensures
    ∙ (ap (λ (l : List Reference). map (number_behind (length items)) (filter (refers_within (length c.args.lists.now)) l)) c.deref.ensures.value
    ∙ ap (λ m. map (number_behind (length items)) (filter (refers_within m) item.references.items)) (sym (length-map c.args.lists.now (λ v. v.items)))) in
    record {
      len = ap length c.in_ok-push.ensures.items ∙ (length_push edges c.in_ok-ends.ends ∙ ap (λ m. m + 1) c.loop-item.invariant.len);
      each = Leads-map_push (IsListEdge items lists) (λ v. v.items) edges c.push.new.self.items c.in_ok-ends.ends n c.in_ok-push.ensures.items c.loop-item.invariant.len c.loop-item.invariant.each (λ t. subst (λ (l : List ℕ). Contains l t ↔ IsListEdge items lists n t) (sym same) (ends-of_item items lists n item at t));
    }

pub loop-list-init : goal.loop-list-init
loop-list-init c = record {
  len = omega (arith, c.loop-item.invariant.len, c.loop-item-test.false, c.loop-item.auto.item-index-end);
  each = λ s t h. c.loop-item.invariant.each s t (omega (arith, h, c.loop-item-test.false));
}

pub loop-list-preserved : goal.loop-list-preserved
loop-list-preserved c =
    let items = c.args.items.now in
    let lists : List (List ℕ) = map (λ v. v.items) c.args.lists.now in
    let n = c.loop-list.list-index in
    let edges = c.loop-list.edges.items in
    let row : get_or lists n [] ≡ c.deref-in-loop-list.result.now = get_or-map (λ v. v.items) c.args.lists.now n c.list-item.result [] c.loop-list-test.true ∙ (ap (λ v. v.items) (sym c.list-item.is) ∙ sym c.deref-in-loop-list.ensures.value) in
    let same : c.in_ok-ends-2.ends.items ≡ filter (is_within (length items)) (get_or lists n []) = c.in_ok-ends-2.ensures ∙ ap (λ (l : List ℕ). filter (is_within (length items)) l) (sym row) in
    record {
      len = omega (arith, ap length c.in_ok-push-2.ensures.items, length_push edges c.in_ok-ends-2.ends, c.loop-list.invariant.len);
      each = λ s t h. Leads-map_push (IsListEdge items lists) (λ v. v.items) edges c.push-in-loop-list.new.self.items c.in_ok-ends-2.ends (length items + n) c.in_ok-push-2.ensures.items c.loop-list.invariant.len c.loop-list.invariant.each (λ u. subst (λ (l : List ℕ). Contains l u ↔ IsListEdge items lists (length items + n) u) (sym same) (ends-of_list items lists n u)) s t (omega (arith, h));
    }

pub returns-clause-each : goal.returns-clause-each
returns-clause-each c =
    let items = c.args.items.now in
    let lists : List (List ℕ) = map (λ v. v.items) c.args.lists.now in
    let edges = c.loop-list.edges.items in
    Leads-all (IsListEdge items lists) (map (λ v. v.items) edges) (length items + c.loop-list.list-index) (length-map edges (λ v. v.items) ∙ c.loop-list.invariant.len) c.loop-list.invariant.each (λ s t d. omega (arith, IsEdge-from items lists s t d, c.loop-list-test.false, length-map c.args.lists.now (λ v. v.items)))
