use Rattle.std.proofs.Common.{◌≡◌, ℕ, ◌+◌, List, [], IfSome, Contains, map, length, get_or, sym, ap, ◌∙◌, subst, arith}
use Rattle.std.proofs.lemmas.List.{length-map, length_push, get_or-map}
use Rattle.bundle_order_graph.specs.Classes.{Leads}
use Rattle.bundle_order_sort.specs.Items.{IsItemOf}
use Rattle.bundle_order_sort.proofs.LeftLemmas.{soles-push}
use Rattle.bundle_order_graph.proofs.LeadLemmas.{Leads-within}
use Rattle.bundle_order_sort.proofs.needs.soles_of.Goals as goal

pub loop-list-preserved : goal.loop-list-preserved
loop-list-preserved c =
    let items = c.args.items.now in
    let lists : List (List ℕ) = map (λ v. v.items) c.args.lists.now in
    let n = c.loop-list.list-index in
    let soles = c.loop-list.soles.items in
    let row : get_or lists n [] ≡ c.deref.result.now = get_or-map (λ v. v.items) c.args.lists.now n c.list-item.result [] c.loop-list-test.true ∙ (ap (λ v. v.items) (sym c.list-item.is) ∙ sym c.deref.ensures.value) in
    let all : IfSome c.sole_of.result (λ m. (t : ℕ) → Leads lists n t → IsItemOf items t m) = subst (λ (l : List ℕ). IfSome c.sole_of.result (λ m. (t : ℕ) → Contains l t → IsItemOf items t m)) (sym row) c.sole_of.ensures in
    record {
      len = ap length c.in_ok-push.ensures.items ∙ (length_push soles c.sole_of.result ∙ ap (λ m. m + 1) c.loop-list.invariant.len);
      each = soles-push items lists soles c.push.new.self.items n c.sole_of.result c.in_ok-push.ensures.items c.loop-list.invariant.len c.loop-list.invariant.each all;
    }

pub returns : goal.returns
returns c =
    let len = length-map c.args.lists.now (λ v. v.items) in
    record {
      len = omega (arith, c.loop-list.invariant.len, c.loop-list-test.false, c.loop-list.auto.list-index-end, len);
      each = λ l t h m e. c.loop-list.invariant.each l t (omega (arith, Leads-within (map (λ v. v.items) c.args.lists.now) l t h, len, c.loop-list-test.false)) h m e;
    }
